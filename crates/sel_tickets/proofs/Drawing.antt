-- What a drawer shows after it drew.
use Rattle.std.proofs.Common.{◌≡◌, ℕ, ◌+◌, ◌<◌, ◌≤◌, ◌++◌, ◌∷◌, [], sym, ap, ◌∙◌, append-nil, arith}
use Rattle.std.proofs.lemmas.Bool.Decides.{nat_tests}
use Rattle.atomic_table.specs.Seated.{TableId}
use Rattle.sel_tickets.specs.declared.rule.TicketView.{TicketView}
use Rattle.sel_tickets.specs.Sums.{below, late_in, late_at}
use Rattle.sel_tickets.specs.Rule.{Drew, both_views}
use Rattle.sel_tickets.specs.Tickets.{Drawn, with_number, with_end, joined}
use Rattle.sel_tickets.proofs.Sums.{below_append, weigh_append}

-- what a seat's view shows of the drawer
abbrev pub shown : TableId → TicketView → Drawn
shown id v = record {
  of = record { id = id; trees = v.trees; workers = v.workers };
  numbers = below v.trees v.drawn;
  ended = late_in v.trees v.drawn;
  seats = v.seats;
  rest = v.rest;
}

pub drew_number : (id : TableId) (v : TicketView) (x : ℕ) (w : TicketView) → Drew v x w → x < v.trees → shown id w ≡ with_number (shown id v) x
drew_number id v x w d h =
    let n : below v.trees (v.drawn ++ x ∷ []) ≡ below v.trees v.drawn ++ x ∷ [] = below_append v.trees v.drawn (x ∷ []) ∙ ap (λ l. below v.trees v.drawn ++ l) one in
    let e : late_in v.trees (v.drawn ++ x ∷ []) ≡ late_in v.trees v.drawn = (let a = weigh_append (late_at v.trees) v.drawn (x ∷ []) in let b : late_at v.trees x ≡ 0 = grind (arith, nat_tests) in omega arith) in
    ap (shown id) d.view ∙ ap (λ l. record { of = record { id = id; trees = v.trees; workers = v.workers }; numbers = l; ended = late_in v.trees (v.drawn ++ x ∷ []); seats = v.seats; rest = v.rest }) n
    ∙ ap (λ k. record { of = record { id = id; trees = v.trees; workers = v.workers }; numbers = below v.trees v.drawn ++ x ∷ []; ended = k; seats = v.seats; rest = v.rest }) e
  where
    one : below v.trees (x ∷ []) ≡ x ∷ []
    one = grind (arith, nat_tests)

pub drew_end : (id : TableId) (v : TicketView) (x : ℕ) (w : TicketView) → Drew v x w → v.trees ≤ x → shown id w ≡ with_end (shown id v)
drew_end id v x w d h =
    let n : below v.trees (v.drawn ++ x ∷ []) ≡ below v.trees v.drawn = below_append v.trees v.drawn (x ∷ []) ∙ ap (λ l. below v.trees v.drawn ++ l) none ∙ append-nil (below v.trees v.drawn) in
    let e : late_in v.trees (v.drawn ++ x ∷ []) ≡ late_in v.trees v.drawn + 1 = (let a = weigh_append (late_at v.trees) v.drawn (x ∷ []) in let b : late_at v.trees x ≡ 1 = grind (arith, nat_tests) in omega arith) in
    ap (shown id) d.view ∙ ap (λ l. record { of = record { id = id; trees = v.trees; workers = v.workers }; numbers = l; ended = late_in v.trees (v.drawn ++ x ∷ []); seats = v.seats; rest = v.rest }) n
    ∙ ap (λ k. record { of = record { id = id; trees = v.trees; workers = v.workers }; numbers = below v.trees v.drawn; ended = k; seats = v.seats; rest = v.rest }) e
  where
    none : below v.trees (x ∷ []) ≡ []
    none = grind (arith, nat_tests)

pub shown_both : (i j : TableId) (v w : TicketView) → w.trees ≡ v.trees → shown i (both_views v w) ≡ joined (shown i v) (shown j w)
shown_both i j v w t =
    let n : below v.trees (v.drawn ++ w.drawn) ≡ below v.trees v.drawn ++ below w.trees w.drawn = below_append v.trees v.drawn w.drawn ∙ ap (λ n. below v.trees v.drawn ++ below n w.drawn) (sym t) in
    let e : late_in v.trees (v.drawn ++ w.drawn) ≡ late_in v.trees v.drawn + late_in w.trees w.drawn = weigh_append (late_at v.trees) v.drawn w.drawn ∙ ap (λ n. late_in v.trees v.drawn + late_in n w.drawn) (sym t) in
    ap (λ l. record { of = record { id = i; trees = v.trees; workers = v.workers }; numbers = l; ended = late_in v.trees (v.drawn ++ w.drawn); seats = v.seats + w.seats; rest = v.rest + w.rest }) n
    ∙ ap (λ k. record { of = record { id = i; trees = v.trees; workers = v.workers }; numbers = below v.trees v.drawn ++ below w.trees w.drawn; ended = k; seats = v.seats + w.seats; rest = v.rest + w.rest }) e
