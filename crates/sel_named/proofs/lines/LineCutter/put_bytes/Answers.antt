-- One byte more.
use Rattle.std.proofs.Common.{◌++◌, ◌+◌, ◌≤◌, List, ℕ, length, map, drop, sym, ◌∙◌, arith}
use Rattle.std.proofs.lemmas.List.{at_drop_more, at_drop_all}
use Rattle.sel_grammar.specs.declared.emission.Emitted.TheVariants.{Byte}
use Rattle.sel_named.specs.Cutting.{all_lines}
use Rattle.sel_named.proofs.lines.LineCutter.put_bytes.Goals as goal

pub bytes-preserved : goal.bytes-preserved
bytes-preserved c = λ rest.
    c.in_ok-put_byte.ensures (map Byte (drop (c.bytes.byte-index + 1) c.args.bytes.now) ++ rest)
    ∙ sym (at_drop_more (λ (bs : List ℕ). all_lines c.bytes.self (map Byte bs ++ rest)) c.args.bytes.now c.bytes.byte-index 0 c.bytes-test.true)
    ∙ c.bytes.invariant rest

pub returns : goal.returns
returns c = λ rest.
    let past : length c.args.bytes.now ≤ c.bytes.byte-index = let h = c.bytes-test.false in omega arith in
    sym (at_drop_all (λ (bs : List ℕ). all_lines c.bytes.self (map Byte bs ++ rest)) c.args.bytes.now c.bytes.byte-index past) ∙ c.bytes.invariant rest
