-- What printing keeps on its stack.
use Rattle.std.specs.Prelude.{◌≡◌, ℕ, ◌==◌, if◌then◌else◌, Option, Some, None, List, ◌++◌, [], ◌∷◌, codes, slice_get}
use Rattle.sel_grammar.specs.declared.grammar.Grammar.{Grammar}
use Rattle.sel_forest.specs.declared.forest.Node.{Node}
use Rattle.sel_forest.specs.declared.print.Task.{Task}
use Rattle.sel_forest.specs.declared.print.Task.TheVariants as task
use Rattle.sel_forest.specs.declared.forest.Tree.{Tree}
use Rattle.sel_forest.specs.declared.print.Printer.{Printer}
use Rattle.sel_forest.specs.Printed.{operator_name, attribute_text, IsPrinted}

-- a parenthesis where there are kids
abbrev pub opening : Node → List ℕ
opening node = if node.kids == 0 then [] else codes "("

-- what stands before a node's kids
abbrev pub head_text : Grammar → Node → List ℕ
head_text g node = operator_name g node.operator ++ (attribute_text node.attribute ++ opening node)

-- what follows a node's head, the last first
abbrev pub node_tasks : Node → List Task
node_tasks node =
    if node.kids == 0 then []
    else (if node.kids == 1 then task.Close ∷ task.Tree node.left ∷ []
    else task.Close ∷ task.Tree node.right ∷ task.Comma ∷ task.Tree node.left ∷ [])

abbrev pub head_at : Grammar → Option Node → List ℕ
head_at g None = []
head_at g (Some node) = head_text g node

abbrev pub tasks_at : Option Node → List Task
tasks_at None = []
tasks_at (Some node) = node_tasks node

-- what a task prints at once
abbrev pub task_text : Grammar → List Node → Task → List ℕ
task_text g nodes (task.Tree at) = head_at g (slice_get nodes at)
task_text g nodes task.Comma = codes ","
task_text g nodes task.Close = codes ")"

-- what it leaves to be printed, the last first
abbrev pub task_below : List Node → Task → List Task
task_below nodes (task.Tree at) = tasks_at (slice_get nodes at)
task_below nodes task.Comma = []
task_below nodes task.Close = []

-- these trees are printed, each on a line, and nothing is begun
pub record HasPrinted (g : Grammar) (printer : Printer) (trees : List Tree) : Type 0 where
  pub printed : IsPrinted g (record { trees = trees }) printer.text.items
  pub idle : printer.tasks.items ≡ []
