-- A name with one digit is put at once.
use Rattle.std.proofs.Common.{◌+◌, refl, arith}
use Rattle.sel_expand.proofs.Sheets.{named_digit}
use Rattle.sel_expand.proofs.sheet.VecU8Sheet.put_temporary.Goals as goal

pub returns-then-number-lt10 : goal.returns-then-number-lt10
returns-then-number-lt10 c = named_digit c.args.self.now.items c.extend_from_slice.new.self.items c.args.number (48 + c.args.number) (omega (arith, c.if-number-lt10.true)) c.in_ok-extend_from_slice.ensures.items refl
