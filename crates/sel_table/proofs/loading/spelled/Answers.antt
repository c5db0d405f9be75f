use Rattle.std.proofs.Common.{refl, sym, ◌∙◌, subst, arith, ◌∷◌, [], map}
use Rattle.sel_full.specs.TableTexts.{state_text}
use Rattle.sel_table.specs.LineReading.{first_line}
use Rattle.sel_table.specs.Loading.{IsFormRefusal}
use Rattle.sel_table.proofs.Reading.{refused_head, refused_state, refused_number, refused_more, spelled, empty_of, not_empty}
use Rattle.sel_table.proofs.Taking.{took_room}
use Rattle.sel_table.proofs.loading.spelled.Goals as goal

pub returns-in-Err-clause-fault : goal.returns-in-Err-clause-fault
returns-in-Err-clause-fault c = refused_head c.args.normal.now c.is_standing.ensures c.args.bytes.now _ refl refl c.in-Err.refusal c.in-Err.ensures.fault

pub states-requires : goal.states-requires
states-requires c =
    let room = c.requires.short in record { room = omega (arith, room, took_room _ c.head.new.self (first_line c.in-Ok.head ∷ []) c.in-Ok.ensures.line) }

pub returns-in-Err-states-clause-fault : goal.returns-in-Err-states-clause-fault
returns-in-Err-states-clause-fault c =
    refused_state c.args.normal.now c.is_standing.ensures c.args.bytes.now _ refl refl c.in-Ok.head c.in-Ok.ensures.is c.head.new.self c.in-Ok.ensures.line c.in-Err-states.refusal c.in-Err-states.ensures.fault

pub numbers-requires : goal.numbers-requires
numbers-requires c =
    let room = c.requires.short in record {
      room = omega (arith, room, took_room _ c.head.new.self (first_line c.in-Ok.head ∷ []) c.in-Ok.ensures.line, took_room c.head.new.self c.states.new.self (map state_text c.in-Ok-states.states) c.in-Ok-states.ensures.lines);
    }

pub returns-in-Err-numbers-clause-fault : goal.returns-in-Err-numbers-clause-fault
returns-in-Err-numbers-clause-fault c =
    refused_number c.args.normal.now c.is_standing.ensures c.args.bytes.now _ refl refl c.in-Ok.head c.in-Ok.ensures.is c.head.new.self c.in-Ok.ensures.line c.in-Ok-states.states c.in-Ok-states.ensures.count c.in-Ok-states.ensures.are c.states.new.self c.in-Ok-states.ensures.lines
    c.in-Err-numbers.refusal c.in-Err-numbers.ensures.fault

pub returns-then-not-is_empty-clause-fault : goal.returns-then-not-is_empty-clause-fault
returns-then-not-is_empty-clause-fault c =
    subst (IsFormRefusal c.args.normal.now c.args.bytes.now) (sym c.wrong.ensures) (
      refl,
      refused_more c.args.normal.now c.is_standing.ensures c.args.bytes.now _ refl refl c.in-Ok.head c.in-Ok.ensures.is c.head.new.self c.in-Ok.ensures.line c.in-Ok-states.states c.in-Ok-states.ensures.count c.in-Ok-states.ensures.are c.states.new.self c.in-Ok-states.ensures.lines
          c.in-Ok-numbers.numbers c.in-Ok-numbers.ensures.count c.in-Ok-numbers.ensures.are c.numbers.new.self c.in-Ok-numbers.ensures.lines _ (not_empty c.numbers.new.self.rest.now (sym c.is_empty.ensures ∙ c.if-not-is_empty.true)) refl,
    )

pub returns-clause-ok : goal.returns-clause-ok
returns-clause-ok c =
    spelled c.args.normal.now c.is_standing.ensures c.args.bytes.now _ refl refl c.in-Ok.head c.in-Ok.ensures.is c.head.new.self c.in-Ok.ensures.line c.in-Ok-states.states c.in-Ok-states.ensures.count c.in-Ok-states.ensures.are c.states.new.self c.in-Ok-states.ensures.lines c.in-Ok-numbers.numbers
    c.in-Ok-numbers.ensures.count c.in-Ok-numbers.ensures.are c.numbers.new.self c.in-Ok-numbers.ensures.lines (empty_of c.numbers.new.self.rest.now (sym c.is_empty.ensures ∙ c.if-not-is_empty.false))
