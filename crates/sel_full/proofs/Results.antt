-- What holds on Ok and on Err.
use Rattle.std.proofs.Common.{Result, Ok, Err}
use Rattle.std.specs.Prelude.{OnOk}

pub on_ok : {A E : Type 0} (P Q : Type 0) (r : Result A E) → (P → Q) → OnOk r P → OnOk r Q
on_ok P Q (Ok x) f h = f h
on_ok P Q (Err e) f h = h

pub on_ok_both : {A E : Type 0} (P Q R : Type 0) (r : Result A E) → (P → Q → R) → OnOk r P → OnOk r Q → OnOk r R
on_ok_both P Q R (Ok x) f h k = f h k
on_ok_both P Q R (Err e) f h k = h
