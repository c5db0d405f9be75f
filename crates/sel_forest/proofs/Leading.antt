-- Tasks of a stack, each of which puts its part of a text behind what is printed.
use Rattle.std.proofs.Common.{◌≡◌, ℕ, zero, suc, ◌+◌, ◌-◌, ◌<◌, ◌≤◌, ◌==◌, Bool, true, false, if◌then◌else◌, Some, List, [], ◌∷◌, ◌++◌, refl, ap, sym, ◌∙◌, subst, arith, reverse, append_assoc, slice_get, codes, length}
use Rattle.std.proofs.lemmas.List.{reverse-append}
use Rattle.sel_grammar.specs.declared.grammar.Attribute.{Attribute}
use Rattle.sel_grammar.specs.declared.grammar.Grammar.{Grammar}
use Rattle.sel_grammar.specs.PlainTrees.{PlainTree, Node0, Node1, Node2}
use Rattle.sel_forest.specs.declared.forest.Node.{Node}
use Rattle.sel_forest.specs.declared.print.Task.{Task}
use Rattle.sel_forest.specs.declared.print.Task.TheVariants as task
use Rattle.sel_forest.specs.Places.{IsRootAt}
use Rattle.sel_forest.specs.Postorder.{postorder}
use Rattle.sel_forest.specs.Printed.{operator_name, attribute_text, tree_text}
use Rattle.sel_forest.specs.Printing.{opening, head_text, node_tasks, head_at, tasks_at, task_text, task_below}
use Rattle.sel_forest.proofs.PlaceLemmas.{append-none}
use Rattle.sel_forest.proofs.Roots.{stands_root}

-- the tasks, the first one first, put what is missing of `target`
abbrev pub Leads : Grammar → List Node → List ℕ → List ℕ → List Task → Type 0
Leads g nodes target text [] = text ≡ target
Leads g nodes target text (task.Tree i ∷ tasks) = (t : PlainTree) × (IsRootAt nodes i t × Leads g nodes target (text ++ tree_text g t) tasks)
Leads g nodes target text (task.Comma ∷ tasks) = Leads g nodes target (text ++ codes ",") tasks
Leads g nodes target text (task.Close ∷ tasks) = Leads g nodes target (text ++ codes ")") tasks

head_assoc : (o n a p x : List ℕ) → (o ++ (n ++ (a ++ p))) ++ x ≡ o ++ (n ++ (a ++ (p ++ x)))
head_assoc o n a p x = append_assoc o (n ++ (a ++ p)) x ∙ ap (λ y. o ++ y) (append_assoc n (a ++ p) x ∙ ap (λ y. n ++ y) (append_assoc a p x))

one_kid : (o n a p t c : List ℕ) → o ++ (n ++ (a ++ (p ++ (t ++ c)))) ≡ ((o ++ (n ++ (a ++ p))) ++ t) ++ c
one_kid o n a p t c = sym (append_assoc (o ++ (n ++ (a ++ p))) t c ∙ head_assoc o n a p (t ++ c))

two_kids : (o n a p t c u d : List ℕ) → o ++ (n ++ (a ++ (p ++ (t ++ (c ++ (u ++ d)))))) ≡ ((((o ++ (n ++ (a ++ p))) ++ t) ++ c) ++ u) ++ d
two_kids o n a p t c u d =
    let h = o ++ (n ++ (a ++ p)) in
    sym (append_assoc ((h ++ t) ++ c) u d ∙ append_assoc (h ++ t) c (u ++ d) ∙ append_assoc h t (c ++ (u ++ d)) ∙ head_assoc o n a p (t ++ (c ++ (u ++ d))))

no_kid : (n a : List ℕ) → n ++ a ≡ n ++ (a ++ [])
no_kid n a = ap (λ x. n ++ x) (append-none a)

module _ (g : Grammar) (nodes : List Node) (target : List ℕ) where
  at_node : (i : ℕ) (node : Node) (text : List ℕ) (rest : List Task) → slice_get nodes i ≡ Some node
      → Leads g nodes target (text ++ head_text g node) (reverse (node_tasks node) ++ rest)
      → Leads g nodes target (text ++ task_text g nodes (task.Tree i)) (reverse (task_below nodes (task.Tree i)) ++ rest)
  at_node i node text rest get h = subst (λ o. Leads g nodes target (text ++ head_at g o) (reverse (tasks_at o) ++ rest)) (sym get) h

  -- a node with its operator, kids and attribute named
  named : (op kids : ℕ) (a : Attribute) (node : Node) (text : List ℕ) (rest : List Task) → node.operator ≡ op → node.kids ≡ kids → node.attribute ≡ a
      → Leads g nodes target (text ++ (operator_name g op ++ (attribute_text a ++ (if kids == 0 then [] else codes "("))))
      (reverse (if kids == 0 then [] else (if kids == 1 then task.Close ∷ task.Tree node.left ∷ [] else task.Close ∷ task.Tree node.right ∷ task.Comma ∷ task.Tree node.left ∷ [])) ++ rest)
      → Leads g nodes target (text ++ head_text g node) (reverse (node_tasks node) ++ rest)
  named op kids a node text rest is count at h =
      subst (λ op. Leads g nodes target (text ++ (operator_name g op ++ (attribute_text node.attribute ++ opening node))) (reverse (node_tasks node) ++ rest)) (sym is)
      (subst (λ a. Leads g nodes target (text ++ (operator_name g op ++ (attribute_text a ++ opening node))) (reverse (node_tasks node) ++ rest)) (sym at)
      (subst (λ kids. Leads g nodes target (text ++ (operator_name g op ++ (attribute_text a ++ (if kids == 0 then [] else codes "("))))
      (reverse (if kids == 0 then [] else (if kids == 1 then task.Close ∷ task.Tree node.left ∷ [] else task.Close ∷ task.Tree node.right ∷ task.Comma ∷ task.Tree node.left ∷ [])) ++ rest)) (sym count) h))

  at_tree : (i : ℕ) (t : PlainTree) (text : List ℕ) (rest : List Task) → IsRootAt nodes i t → Leads g nodes target (text ++ tree_text g t) rest
      → Leads g nodes target (text ++ task_text g nodes (task.Tree i)) (reverse (task_below nodes (task.Tree i)) ++ rest)
  at_tree i (Node0 op a) text rest (node, get, is, kids, at) h =
      at_node i node text rest get (named op 0 a node text rest is kids at
      (subst (λ x. Leads g nodes target (text ++ x) rest) (no_kid (operator_name g op) (attribute_text a)) h))
  at_tree i (Node1 op a t) text rest (node, get, is, kids, at, below) h =
      at_node i node text rest get (named op 1 a node text rest is kids at
      (t, (below.1, subst (λ x. Leads g nodes target x rest) (one_kid text (operator_name g op) (attribute_text a) (codes "(") (tree_text g t) (codes ")")) h)))
  at_tree i (Node2 op a t u) text rest (node, get, is, kids, at, below) h =
      at_node i node text rest get (named op 2 a node text rest is kids at (
        t,
        (
          below.2,
          (
            u,
            (
              below.3,
              subst (λ x. Leads g nodes target x rest)
                  (two_kids text (operator_name g op) (attribute_text a) (codes "(") (tree_text g t) (codes ",") (tree_text g u) (codes ")")) h,
            ),
          ),
        ),
      ))

  -- one task is performed
  pub Leads-next : (this : Task) (text : List ℕ) (rest : List Task) → Leads g nodes target text (this ∷ rest)
      → Leads g nodes target (text ++ task_text g nodes this) (reverse (task_below nodes this) ++ rest)
  Leads-next (task.Tree i) text rest (t, (root, h)) = at_tree i t text rest root h
  Leads-next task.Comma text rest h = h
  Leads-next task.Close text rest h = h

  pub Leads-pop : (this : Task) (old mid new : List Task) (text text' : List ℕ) → old ≡ mid ++ (this ∷ []) → Leads g nodes target text (reverse old)
      → text' ≡ text ++ task_text g nodes this → new ≡ mid ++ task_below nodes this → Leads g nodes target text' (reverse new)
  Leads-pop this old mid new text text' e h is tasks_are =
      let turned : reverse old ≡ this ∷ reverse mid = ap reverse e ∙ reverse-append mid (this ∷ []) in
      let left : reverse new ≡ reverse (task_below nodes this) ++ reverse mid = ap reverse tasks_are ∙ reverse-append mid (task_below nodes this) in
      subst (λ x. Leads g nodes target x (reverse new)) (sym is)
      (subst (λ x. Leads g nodes target (text ++ task_text g nodes this) x) (sym left)
      (Leads-next this text (reverse mid) (subst (λ x. Leads g nodes target text x) turned h)))

pub Leads-start : (g : Grammar) (nodes : List Node) (t : PlainTree) (text : List ℕ) (at : ℕ) → nodes ≡ postorder 0 t → at ≡ length nodes - 1
    → Leads g nodes (text ++ tree_text g t) text (reverse (task.Tree at ∷ []))
Leads-start g nodes t text at postorder e = (t, (subst (λ i. IsRootAt nodes i t) (sym e) (stands_root nodes t postorder), refl))

-- A number for each task: the tasks that it leaves are lighter together.
abbrev heavy : ℕ → ℕ
heavy zero = 2
heavy (suc i) = heavy i + heavy i + 3

abbrev weight : Task → ℕ
weight (task.Tree i) = heavy i
weight task.Comma = 1
weight task.Close = 1

abbrev pub weights : List Task → ℕ
weights [] = 0
weights (this ∷ tasks) = weight this + weights tasks

weights-append : (xs ys : List Task) → weights (xs ++ ys) ≡ weights xs + weights ys
weights-append [] ys = omega arith
weights-append (x ∷ xs) ys = let h = weights-append xs ys in omega arith

heavy-below : (i j : ℕ) → i < j → heavy i + heavy i + 3 ≤ heavy j
heavy-below i zero h = absurd (omega arith)
heavy-below i (suc j) h = go (i == j) refl (heavy-below i j)
  where
    go : (b : Bool) → (i == j) ≡ b → (i < j → heavy i + heavy i + 3 ≤ heavy j) → heavy i + heavy i + 3 ≤ heavy (suc j)
    go true e r = let q : i ≡ j = grind (arith, e) in subst (λ k. heavy i + heavy i + 3 ≤ heavy (suc k)) q (omega arith)
    go false e r = let l : i < j = grind (arith, e, h) in let k = r l in omega arith

one_lighter : (i j : ℕ) → i < j → 1 + (heavy i + 0) < heavy j
one_lighter i j h = let k = heavy-below i j h in omega arith

two_lighter : (i l j : ℕ) → i < j → l < j → 1 + (heavy l + (1 + (heavy i + 0))) < heavy j
two_lighter i l j h k = let a = heavy-below i j h in let b = heavy-below l j k in omega arith

heavy-some : (i : ℕ) → 0 < heavy i
heavy-some zero = omega arith
heavy-some (suc i) = omega arith

lighter_at : (i kids : ℕ) (node : Node) → node.kids ≡ kids
    → weights (if kids == 0 then [] else (if kids == 1 then task.Close ∷ task.Tree node.left ∷ [] else task.Close ∷ task.Tree node.right ∷ task.Comma ∷ task.Tree node.left ∷ [])) < heavy i
    → weights (node_tasks node) < heavy i
lighter_at i kids node e h =
    subst (λ kids. weights (if kids == 0 then [] else (if kids == 1 then task.Close ∷ task.Tree node.left ∷ [] else task.Close ∷ task.Tree node.right ∷ task.Comma ∷ task.Tree node.left ∷ [])) < heavy i) (sym e) h

lighter_tree : (nodes : List Node) (i : ℕ) (t : PlainTree) → IsRootAt nodes i t → weights (tasks_at (slice_get nodes i)) < heavy i
lighter_tree nodes i (Node0 op a) (node, get, is, kids, at) = subst (λ o. weights (tasks_at o) < heavy i) (sym get) (lighter_at i 0 node kids (heavy-some i))
lighter_tree nodes i (Node1 op a t) (node, get, is, kids, at, below) =
    subst (λ o. weights (tasks_at o) < heavy i) (sym get) (lighter_at i 1 node kids (one_lighter node.left i below.0))
lighter_tree nodes i (Node2 op a t u) (node, get, is, kids, at, below) =
    subst (λ o. weights (tasks_at o) < heavy i) (sym get) (lighter_at i 2 node kids (two_lighter node.left node.right i below.0 below.1))

lighter : (g : Grammar) (nodes : List Node) (target text : List ℕ) (this : Task) (rest : List Task) → Leads g nodes target text (this ∷ rest) → weights (task_below nodes this) < weight this
lighter g nodes target text (task.Tree i) rest (t, (root, h)) = lighter_tree nodes i t root
lighter g nodes target text task.Comma rest h = omega arith
lighter g nodes target text task.Close rest h = omega arith

pub weights-pop : (g : Grammar) (nodes : List Node) (target text : List ℕ) (this : Task) (old mid new : List Task) → old ≡ mid ++ (this ∷ []) → Leads g nodes target text (reverse old)
    → new ≡ mid ++ task_below nodes this → weights new < weights old
weights-pop g nodes target text this old mid new e h is =
    let turned : reverse old ≡ this ∷ reverse mid = ap reverse e ∙ reverse-append mid (this ∷ []) in
    let l = lighter g nodes target text this (reverse mid) (subst (λ x. Leads g nodes target text x) turned h) in
    let a = weights-append mid (this ∷ []) in
    let b = weights-append mid (task_below nodes this) in
    let p = ap weights e in
    let q = ap weights is in
    omega (arith, l, a, b, p, q)
