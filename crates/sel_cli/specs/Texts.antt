-- The texts that the words name, and what is made of them. `Is told text` says which texts may stand behind what a shelf tells of a name.
use Rattle.std.specs.Prelude.{◌≡◌, ℕ, ◌<◌, ◌≤◌, Bool, List, length, Option, Some, None, IfSome, ◌⊎◌}
use Rattle.sel_base.specs.Reads.{ShelfTold}
use Rattle.sel_grammar.specs.declared.grammar.Grammar.{Grammar}
use Rattle.sel_grammar.specs.declared.refusal.GrammarFault.{GrammarFault}
use Rattle.sel_grammar_text.specs.GrammarText.{SpellsGrammar, IsGrammarFault}
use Rattle.sel_normal.specs.NormalFaults.{IsAccepted, IsNormalFault}
use Rattle.sel_forest.specs.declared.forest.Forest.{Forest}
use Rattle.sel_forest.specs.declared.refusal.ForestFault.{ForestFault}
use Rattle.sel_forest.specs.ForestText.{SpellsForest, IsForestFault}
use Rattle.sel_grammar.specs.Costs.{Cost}
use Rattle.sel_check.specs.declared.refusal.CheckFault.{CheckFault}
use Rattle.sel_check.specs.Checks.{ProvesCosts, IsCheckFault}
use Rattle.sel_words.specs.Words.{Task, GrammarSource, Held, Shipped, grammar_name, forest_name, certificate_name}
use Rattle.sel_answers.specs.Output.{IsOutput, TableMarks}

-- the greatest length of a grammar's text, in bytes
abbrev pub grammar_limit : ℕ
grammar_limit = 16777216

-- the greatest length of a forest's text, in bytes
abbrev pub forest_limit : ℕ
forest_limit = 67108864

-- the greatest length of a text of certificates, in bytes
abbrev pub certificate_limit : ℕ
certificate_limit = 268435456

-- the shelf tells this text
abbrev pub IsTold : Option (List ℕ) → List ℕ → Type 0
IsTold told text = told ≡ Some text

-- this may be the text that the shelf holds: it is that, where the shelf tells it
abbrev pub MayBe : Option (List ℕ) → List ℕ → Type 0
MayBe told text = IfSome told (λ bytes. text ≡ bytes)

-- what the words ask for, and what the shelf tells of each name
pub record Request : Type 0 where
  pub wanted : Option Task
  pub held : List ℕ → Option (List ℕ)

-- what a run is given that has words for this task, and a shelf that tells this
abbrev pub request_of : Option Task → ShelfTold → Request
request_of wanted shelf = record { wanted = wanted; held = shelf.held }

-- this is a grammar's text, by its source and by what the shelf tells of its name: a shipped text is the stated one, whatever the shelf holds
abbrev pub IsGrammarText : (Option (List ℕ) → List ℕ → Type 0) → GrammarSource → Option (List ℕ) → List ℕ → Type 0
IsGrammarText Is Held told text = Is told text
IsGrammarText Is (Shipped shipped) told text = text ≡ shipped

-- the words ask for this task, and its grammar's text is this
pub record HasGrammarText (Is : Option (List ℕ) → List ℕ → Type 0) (request : Request) (task : Task) (text : List ℕ) : Type 0 where
  pub asked_for : request.wanted ≡ Some task
  pub is_text : IsGrammarText Is task.source (request.held task.grammar) text

-- the grammar's text spells this grammar, and nothing is wrong with its normal form
pub record AcceptsGrammar (Is : Option (List ℕ) → List ℕ → Type 0) (request : Request) (task : Task) (grammar : Grammar) : Type 0 where
  pub text : List ℕ
  pub has : HasGrammarText Is request task text
  pub within : length text ≤ grammar_limit
  pub spelled : SpellsGrammar text grammar
  pub normal : IsAccepted grammar

-- the grammar is accepted, and the forest's text, of this name, is this
pub record HasForestText (Is : Option (List ℕ) → List ℕ → Type 0) (request : Request) (task : Task) (grammar : Grammar) (name text : List ℕ) : Type 0 where
  pub accepts_grammar : AcceptsGrammar Is request task grammar
  pub is_named : forest_name task.job ≡ Some name
  pub is_text : Is (request.held name) text

-- and spells this forest
pub record AcceptsForest (Is : Option (List ℕ) → List ℕ → Type 0) (request : Request) (task : Task) (grammar : Grammar) (forest : Forest) : Type 0 where
  pub name : List ℕ
  pub text : List ℕ
  pub has : HasForestText Is request task grammar name text
  pub within : length text ≤ forest_limit
  pub spelled : SpellsForest grammar text forest

-- the forest is accepted, and the text of certificates, of this name, is this
pub record HasCertificateText (Is : Option (List ℕ) → List ℕ → Type 0) (request : Request) (task : Task) (grammar : Grammar) (forest : Forest) (name text : List ℕ) : Type 0 where
  pub accepts_forest : AcceptsForest Is request task grammar forest
  pub is_named : certificate_name task.job ≡ Some name
  pub is_text : Is (request.held name) text

-- and its certificates prove the costs of the forest's trees
pub record AcceptsCertificate (Is : Option (List ℕ) → List ℕ → Type 0) (request : Request) (task : Task) (grammar : Grammar) (forest : Forest) : Type 0 where
  pub name : List ℕ
  pub text : List ℕ
  pub has : HasCertificateText Is request task grammar forest name text
  pub within : length text ≤ certificate_limit
  pub costs : List (Option Cost)
  pub proved : ProvesCosts grammar forest text costs

-- all texts of the task are accepted: the grammar's, the forest's where the task has one, and that of certificates where it has one
abbrev pub Accepts : (Option (List ℕ) → List ℕ → Type 0) → Request → Task → Grammar → Option Forest → Type 0
Accepts Is request task grammar None = AcceptsGrammar Is request task grammar × (forest_name task.job ≡ None)
Accepts Is request task grammar (Some forest) =
    (AcceptsForest Is request task grammar forest × (certificate_name task.job ≡ None)) ⊎ AcceptsCertificate Is request task grammar forest

-- the text of this name is longer than its limit: that of a grammar that is read, the forest's behind an accepted grammar, or that of certificates behind an accepted forest
abbrev pub IsTooLong : (Option (List ℕ) → List ℕ → Type 0) → Request → List ℕ → ℕ → Type 0
IsTooLong Is request name limit =
    ((task : Task) × (text : List ℕ) × HasGrammarText Is request task text × (grammar_name task ≡ Some name) × (limit ≡ grammar_limit) × (limit < length text))
    ⊎ ((task : Task) × (grammar : Grammar) × (text : List ℕ) × HasForestText Is request task grammar name text × (limit ≡ forest_limit) × (limit < length text))
    ⊎ ((task : Task) × (grammar : Grammar) × (forest : Forest) × (text : List ℕ) × HasCertificateText Is request task grammar forest name text × (limit ≡ certificate_limit) × (limit < length text))

-- the text has this first fault, or spells a grammar whose normal form has it
abbrev pub IsRefusedGrammar : List ℕ → GrammarFault → Type 0
IsRefusedGrammar text fault = IsGrammarFault text fault ⊎ ((grammar : Grammar) × SpellsGrammar text grammar × IsNormalFault grammar fault)

-- the grammar's text, of this name, is refused for this fault
pub record RefusesGrammar (Is : Option (List ℕ) → List ℕ → Type 0) (request : Request) (name : List ℕ) (fault : GrammarFault) : Type 0 where
  pub task : Task
  pub text : List ℕ
  pub has : HasGrammarText Is request task text
  pub is_named : name ≡ task.grammar
  pub within : length text ≤ grammar_limit
  pub refused : IsRefusedGrammar text fault

-- the forest's text, of this name, has this first fault behind an accepted grammar
pub record RefusesForest (Is : Option (List ℕ) → List ℕ → Type 0) (request : Request) (name : List ℕ) (fault : ForestFault) : Type 0 where
  pub task : Task
  pub grammar : Grammar
  pub text : List ℕ
  pub has : HasForestText Is request task grammar name text
  pub within : length text ≤ forest_limit
  pub refused : IsForestFault grammar text fault

-- the text of certificates, of this name, has this first fault behind an accepted forest
pub record RefusesCertificate (Is : Option (List ℕ) → List ℕ → Type 0) (request : Request) (name : List ℕ) (fault : CheckFault) : Type 0 where
  pub task : Task
  pub grammar : Grammar
  pub forest : Forest
  pub text : List ℕ
  pub has : HasCertificateText Is request task grammar forest name text
  pub within : length text ≤ certificate_limit
  pub refused : IsCheckFault grammar forest text fault

-- the bytes are the whole output of a task whose texts are accepted, with these marks
abbrev pub IsWhole : (Option (List ℕ) → List ℕ → Type 0) → Request → TableMarks → Bool → List ℕ → Type 0
IsWhole Is request marks covered bytes =
    (task : Task) × (grammar : Grammar) × (forest : Option Forest) × Accepts Is request task grammar forest × IsOutput task.job grammar forest marks covered bytes
