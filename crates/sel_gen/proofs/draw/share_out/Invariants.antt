use Rattle.std.proofs.Common.{◌≡◌, ◌≤◌, drop}
use Rattle.sel_gen.specs.Made.{shared}
use Rattle.sel_gen.proofs.Sharing.{put_before}
use Rattle.sel_gen.proofs.draw.share_out.Given as goal

abbrev pub invariant-loop-at : goal.invariant-loop-at
invariant-loop-at l = record {
  shares : shared l.sizes l.spare l.initial.words ≡ put_before l.shares.items (shared (drop l.at l.sizes) l.left l.words);
  less : l.left ≤ l.spare;
}
