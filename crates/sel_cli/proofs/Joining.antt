-- Pieces put behind one another.
use Rattle.std.proofs.Common.{◌≡◌, List, ◌++◌, ap, ◌∙◌, append_assoc}

pub four_pieces : {A : Type 0} (before one two three whole a b c d : List A) → one ≡ before ++ a → two ≡ one ++ b → three ≡ two ++ c → whole ≡ three ++ d
    → whole ≡ before ++ (a ++ (b ++ (c ++ d)))
four_pieces before one two three whole a b c d p q r s =
    s ∙ ap (λ l. l ++ d) (r ∙ ap (λ l. l ++ c) (q ∙ ap (λ l. l ++ b) p))
    ∙ append_assoc ((before ++ a) ++ b) c d ∙ append_assoc (before ++ a) b (c ++ d) ∙ append_assoc before a (b ++ (c ++ d))
