-- Why a text was not read, or not accepted, and so the call stopped.
use Rattle.std.proofs.Common.{◌≡◌, ℕ, ◌+◌, ◌<◌, List, length, replicate, Option, Some, None, Result, Ok, Err, IfErr, IfSome, refl, sym, ap, subst, inl, inr, arith}
use Rattle.std.proofs.lemmas.List.{length-replicate}
use Rattle.sel_base.specs.Reads.{ShelfTold}
use Rattle.sel_grammar.specs.declared.grammar.Grammar.{Grammar}
use Rattle.sel_grammar.specs.declared.refusal.GrammarRefusal.{GrammarRefusal}
use Rattle.sel_grammar.specs.declared.refusal.GrammarRefusal.TheVariants as refusal
use Rattle.sel_grammar_text.specs.GrammarText.{SpellsGrammar}
use Rattle.sel_normal.specs.NormalFaults.{NormalRefusedFor}
use Rattle.sel_forest.specs.declared.forest.Forest.{Forest}
use Rattle.sel_words.specs.Words.{GrammarSource, Held, Shipped, held_under, Task, grammar_name, forest_name, certificate_name}
use Rattle.sel_cli.specs.Texts.{MayBe, IsGrammarText, AcceptsGrammar, AcceptsForest, grammar_limit, forest_limit, certificate_limit, request_of}
use Rattle.sel_cli.specs.Ends.{StopsFor}
use Rattle.sel_cli.specs.Parts.{FetchesFor, ReadsText, JudgedFor}
use Rattle.sel_cli.specs.declared.status.Status.{Status}
use Rattle.sel_cli.specs.declared.status.Status.TheVariants.{Done, Usage, ReadFault, TooBig, BadGrammar, BadForest, WriteFault, NoMemory, Uncovered, BadCertificate}

-- where a shelf doesn't tell its text, some text may be longer than any limit
pub longer_text : (told : Option (List ℕ)) (limit : ℕ) → IfSome told (λ held. limit < length held) → (text : List ℕ) × MayBe told text × (limit < length text)
longer_text None limit h =
    let zeros : List ℕ = replicate (limit + 1) 0 in
    let long : length zeros ≡ limit + 1 = length-replicate (limit + 1) 0 in
    (zeros, tt, omega (arith, long))
longer_text (Some held) limit h = (held, refl, h)

-- ---- the grammar's text

-- what may stand behind what the shelf tells may be the text of a grammar that is held
pub held_text : (source : GrammarSource) (told : Option (List ℕ)) (text : List ℕ) → source ≡ Held → MayBe told text → IsGrammarText MayBe source told text
held_text Held told text e m = m
held_text (Shipped shipped) told text e m = absurd (cc)

module _ (task : Task) (before now : ShelfTold) where
  -- the text of a grammar that is held was not read
  fetch_grammar_stops : (status : Status) → task.source ≡ Held → FetchesFor task.grammar grammar_limit before now status → StopsFor (request_of (Some task) before) before now task.grammar status
  fetch_grammar_stops ReadFault h f = record { is_wanted = (task, refl, inl (ap (λ source. held_under source task.grammar) h)); rose = f.0; last_name = f.1; last_failed = f.2 }
  fetch_grammar_stops TooBig h f =
      let long = longer_text (before.held task.grammar) grammar_limit f.0 in
      record {
        limit = grammar_limit;
        too_long = inl (task, long.0, record { asked_for = refl; is_text = held_text task.source (before.held task.grammar) long.0 h long.1 }, ap (λ source. held_under source task.grammar) h, refl, long.2);
        last_name = f.1;
        last_count = f.2;
      }
  fetch_grammar_stops NoMemory h f = tt
  fetch_grammar_stops Done h f = absurd f
  fetch_grammar_stops Usage h f = absurd f
  fetch_grammar_stops (BadGrammar fault) h f = absurd f
  fetch_grammar_stops (BadForest fault) h f = absurd f
  fetch_grammar_stops WriteFault h f = absurd f
  fetch_grammar_stops Uncovered h f = absurd f
  fetch_grammar_stops (BadCertificate fault) h f = absurd f

  -- and where it is a call's answer
  pub held_stops : {A : Type 0} (r : Result A Status) → task.source ≡ Held → IfErr r (FetchesFor task.grammar grammar_limit before now) → IfErr r (StopsFor (request_of (Some task) before) before now task.grammar)
  held_stops (Ok a) h f = tt
  held_stops (Err status) h f = fetch_grammar_stops status h f

  pub held_reads : {A : Type 0} (r : Result A Status) → task.source ≡ Held → ReadsText (Some task) (Some task.grammar) r before now → ReadsText (Some task) (grammar_name task) r before now
  held_reads r h reads = subst (λ source. ReadsText (Some task) (held_under source task.grammar) r before now) (sym h) reads

  -- the forest's text was not read
  pub fetch_forest_stops : (grammar : Grammar) (name : List ℕ) (status : Status) → AcceptsGrammar MayBe (request_of (Some task) before) task grammar → forest_name task.job ≡ Some name
      → FetchesFor name forest_limit before now status → StopsFor (request_of (Some task) before) before now name status
  fetch_forest_stops grammar name ReadFault a n f = record { is_wanted = (task, refl, inr (inl (grammar, a, n))); rose = f.0; last_name = f.1; last_failed = f.2 }
  fetch_forest_stops grammar name TooBig a n f =
      let long = longer_text (before.held name) forest_limit f.0 in
      record { limit = forest_limit; too_long = inr (inl (task, grammar, long.0, record { accepts_grammar = a; is_named = n; is_text = long.1 }, refl, long.2)); last_name = f.1; last_count = f.2 }
  fetch_forest_stops grammar name NoMemory a n f = tt
  fetch_forest_stops grammar name Done a n f = absurd f
  fetch_forest_stops grammar name Usage a n f = absurd f
  fetch_forest_stops grammar name (BadGrammar fault) a n f = absurd f
  fetch_forest_stops grammar name (BadForest fault) a n f = absurd f
  fetch_forest_stops grammar name WriteFault a n f = absurd f
  fetch_forest_stops grammar name Uncovered a n f = absurd f
  fetch_forest_stops grammar name (BadCertificate fault) a n f = absurd f

  -- the text of certificates was not read
  pub fetch_certificate_stops : (grammar : Grammar) (forest : Forest) (name : List ℕ) (status : Status) → AcceptsForest MayBe (request_of (Some task) before) task grammar forest → certificate_name task.job ≡ Some name
      → FetchesFor name certificate_limit before now status → StopsFor (request_of (Some task) before) before now name status
  fetch_certificate_stops grammar forest name ReadFault a n f = record { is_wanted = (task, refl, inr (inr (grammar, forest, a, n))); rose = f.0; last_name = f.1; last_failed = f.2 }
  fetch_certificate_stops grammar forest name TooBig a n f =
      let long = longer_text (before.held name) certificate_limit f.0 in
      record {
        limit = certificate_limit;
        too_long = inr (inr (task, grammar, forest, long.0, record { accepts_forest = a; is_named = n; is_text = long.1 }, refl, long.2));
        last_name = f.1;
        last_count = f.2;
      }
  fetch_certificate_stops grammar forest name NoMemory a n f = tt
  fetch_certificate_stops grammar forest name Done a n f = absurd f
  fetch_certificate_stops grammar forest name Usage a n f = absurd f
  fetch_certificate_stops grammar forest name (BadGrammar fault) a n f = absurd f
  fetch_certificate_stops grammar forest name (BadForest fault) a n f = absurd f
  fetch_certificate_stops grammar forest name WriteFault a n f = absurd f
  fetch_certificate_stops grammar forest name Uncovered a n f = absurd f
  fetch_certificate_stops grammar forest name (BadCertificate fault) a n f = absurd f

-- a grammar whose normal form is refused is refused
pub normal_judged : (text : List ℕ) (grammar : Grammar) (why : GrammarRefusal) → SpellsGrammar text grammar → NormalRefusedFor grammar why → JudgedFor text why
normal_judged text grammar (refusal.Fault fault) s f = inr (grammar, s, f)
normal_judged text grammar refusal.NoMemory s f = tt
