-- What holds of a result, by its two cases.
use Rattle.std.proofs.Common.{◌≡◌, Result, Ok, Err, IfOk, OnErr, refl}

pub if_ok : {A E : Type 0} (r : Result A E) (P Q : A → Type 0) → IfOk r P → ((x : A) → P x → Q x) → IfOk r Q
if_ok (Ok x) P Q h f = f x h
if_ok (Err e) P Q h f = tt

pub by_result : {A E : Type 0} (r : Result A E) (P : A → Type 0) (R C : Type 0) → IfOk r P → OnErr r R → ((x : A) → r ≡ Ok x → P x → C) → (R → C) → C
by_result (Ok x) P R C h k f g = f x refl h
by_result (Err e) P R C h k f g = g k
