use Rattle.std.proofs.Common.{◌<◌, [], ◌∷◌, ap, ◌∙◌, arith}
use Rattle.sel_law.specs.declared.Setting.{Setting}
use Rattle.sel_rows.specs.Calls.{ask_of_key}
use Rattle.sel_rows.specs.Told.{pass_view}
use Rattle.sel_rows.proofs.SingleCalls.{behind_states_grown, behind_keys_grown, follows_asked_grown}
use Rattle.sel_rows_cases.proofs.Leaves.{same_normal, table_normal, some_states, leaf_key, readable_leaf, behind_leaf, asked_leaf, leaf_follows, behind_found}
use Rattle.sel_rows_cases.proofs.meeting.meet.Goals as goal

pub publish_state-requires-clause-follows : goal.publish_state-requires-clause-follows
publish_state-requires-clause-follows g c =
    let s0 = c.args.first.now in
    let s1 = c.find_transition-seen.new.self in
    let s2 = c.find_state-found.new.self in
    let s3 = c.draw_number-drawn.new.self in
    let v0 = pass_view s0 in
    let v1 = pass_view s1 in
    let v2 = pass_view s2 in
    let v3 = pass_view s3 in
    let operator = c.args.operator in
    let small : operator < 256 = omega arith in
    let key = leaf_key operator in
    let normal = c.args.accepted.now.normal in
    let items = c.in_ok-items.items in
    let e1 = c.find_transition-seen.ensures.kept in
    let e2 = c.find_state-found.ensures.kept in
    let e3 = c.draw_number-drawn.ensures.kept in
    let behind = behind_leaf (ask_of_key v0 key ∷ []) v0 v1 operator c.in-Absent.free s0.row_full small e1.grown c.in-Absent.ensures.found in
    let is = table_normal s1 ∙ (same_normal s0 s1 e1.standing ∙ c.requires.first) in
    let first = asked_leaf v1 operator items normal small is behind.1 c.in_ok-items.ensures.follows in
    follows_asked_grown [] v2 v3 e3.grown items (follows_asked_grown [] v1 v2 e2.grown items first)

pub publish_state-requires-clause-walked : goal.publish_state-requires-clause-walked
publish_state-requires-clause-walked g c =
    let s0 = c.args.first.now in
    let s1 = c.find_transition-seen.new.self in
    let s2 = c.find_state-found.new.self in
    let s3 = c.draw_number-drawn.new.self in
    let v0 = pass_view s0 in
    let v1 = pass_view s1 in
    let v2 = pass_view s2 in
    let v3 = pass_view s3 in
    let operator = c.args.operator in
    let small : operator < 256 = omega arith in
    let key = leaf_key operator in
    let normal = c.args.accepted.now.normal in
    let items = c.in_ok-items.items in
    let e1 = c.find_transition-seen.ensures.kept in
    let e2 = c.find_state-found.ensures.kept in
    let e3 = c.draw_number-drawn.ensures.kept in
    let some = some_states s3 c.in-Own.field-0 c.in-Own.ensures.drawn.0 in
    behind_states_grown [] v2 v3 e3.grown items c.in-Absent-found.place
    (behind_found v1 v2 items c.in-Absent-found.place (λ e. some (ap (λ (z : Setting). z.states) e3.grown.setting ∙ e)) c.in-Absent-found.ensures.found)

pub publish-requires-clause-walked : goal.publish-requires-clause-walked
publish-requires-clause-walked g c =
    let s0 = c.args.first.now in
    let s1 = c.find_transition-seen.new.self in
    let s2 = c.find_state-found.new.self in
    let s3 = c.draw_number-drawn.new.self in
    let v0 = pass_view s0 in
    let v1 = pass_view s1 in
    let v2 = pass_view s2 in
    let v3 = pass_view s3 in
    let operator = c.args.operator in
    let small : operator < 256 = omega arith in
    let key = leaf_key operator in
    let normal = c.args.accepted.now.normal in
    let items = c.in_ok-items.items in
    let e1 = c.find_transition-seen.ensures.kept in
    let e2 = c.find_state-found.ensures.kept in
    let e3 = c.draw_number-drawn.ensures.kept in
    let behind = behind_leaf (ask_of_key v0 key ∷ []) v0 v1 operator c.in-Absent.free s0.row_full small e1.grown c.in-Absent.ensures.found in
    let s4 = c.publish_state.new.self in
    let v4 = pass_view s4 in
    let e4 = c.publish_state.ensures.kept in
    let free = c.in-Absent.free in
    let b2 = behind_keys_grown [] v1 v2 e2.grown key free small (omega arith) (omega arith) (readable_leaf v1 operator) behind.0 in
    let b3 = behind_keys_grown [] v2 v3 e3.grown key free small (omega arith) (omega arith) (readable_leaf v2 operator) b2 in
    behind_keys_grown [] v3 v4 e4.grown key free small (omega arith) (omega arith) (readable_leaf v3 operator) b3

pub publish-requires-clause-number : goal.publish-requires-clause-number
publish-requires-clause-number g c =
    let s0 = c.args.first.now in
    let s1 = c.find_transition-seen.new.self in
    let s2 = c.find_state-found.new.self in
    let s3 = c.draw_number-drawn.new.self in
    let v0 = pass_view s0 in
    let v1 = pass_view s1 in
    let v2 = pass_view s2 in
    let v3 = pass_view s3 in
    let operator = c.args.operator in
    let small : operator < 256 = omega arith in
    let key = leaf_key operator in
    let normal = c.args.accepted.now.normal in
    let items = c.in_ok-items.items in
    let e1 = c.find_transition-seen.ensures.kept in
    let e2 = c.find_state-found.ensures.kept in
    let e3 = c.draw_number-drawn.ensures.kept in
    let s4 = c.publish_state.new.self in
    let v4 = pass_view s4 in
    let e4 = c.publish_state.ensures.kept in
    let is = table_normal s4 ∙ (same_normal s0 s4 (e4.standing ∙ (e3.standing ∙ (e2.standing ∙ e1.standing))) ∙ c.requires.first) in
    (items, c.in-Own-publish_state.ensures.stands.2, leaf_follows v4 operator items normal small is c.in_ok-items.ensures.follows)

pub publish-requires-in-Lost-clause-walked : goal.publish-requires-in-Lost-clause-walked
publish-requires-in-Lost-clause-walked g c =
    let s0 = c.args.first.now in
    let s1 = c.find_transition-seen.new.self in
    let s2 = c.find_state-found.new.self in
    let s3 = c.draw_number-drawn.new.self in
    let v0 = pass_view s0 in
    let v1 = pass_view s1 in
    let v2 = pass_view s2 in
    let v3 = pass_view s3 in
    let operator = c.args.operator in
    let small : operator < 256 = omega arith in
    let key = leaf_key operator in
    let normal = c.args.accepted.now.normal in
    let items = c.in_ok-items.items in
    let e1 = c.find_transition-seen.ensures.kept in
    let e2 = c.find_state-found.ensures.kept in
    let e3 = c.draw_number-drawn.ensures.kept in
    let behind = behind_leaf (ask_of_key v0 key ∷ []) v0 v1 operator c.in-Absent.free s0.row_full small e1.grown c.in-Absent.ensures.found in
    let s4 = c.publish_state.new.self in
    let v4 = pass_view s4 in
    let e4 = c.publish_state.ensures.kept in
    let free = c.in-Absent.free in
    let b2 = behind_keys_grown [] v1 v2 e2.grown key free small (omega arith) (omega arith) (readable_leaf v1 operator) behind.0 in
    let b3 = behind_keys_grown [] v2 v3 e3.grown key free small (omega arith) (omega arith) (readable_leaf v2 operator) b2 in
    behind_keys_grown [] v3 v4 e4.grown key free small (omega arith) (omega arith) (readable_leaf v3 operator) b3

pub publish-requires-in-Lost-clause-number : goal.publish-requires-in-Lost-clause-number
publish-requires-in-Lost-clause-number g c =
    let s0 = c.args.first.now in
    let s1 = c.find_transition-seen.new.self in
    let s2 = c.find_state-found.new.self in
    let s3 = c.draw_number-drawn.new.self in
    let v0 = pass_view s0 in
    let v1 = pass_view s1 in
    let v2 = pass_view s2 in
    let v3 = pass_view s3 in
    let operator = c.args.operator in
    let small : operator < 256 = omega arith in
    let key = leaf_key operator in
    let normal = c.args.accepted.now.normal in
    let items = c.in_ok-items.items in
    let e1 = c.find_transition-seen.ensures.kept in
    let e2 = c.find_state-found.ensures.kept in
    let e3 = c.draw_number-drawn.ensures.kept in
    let s4 = c.publish_state.new.self in
    let v4 = pass_view s4 in
    let e4 = c.publish_state.ensures.kept in
    let is = table_normal s4 ∙ (same_normal s0 s4 (e4.standing ∙ (e3.standing ∙ (e2.standing ∙ e1.standing))) ∙ c.requires.first) in
    (items, c.in-Lost.ensures.stands.1, leaf_follows v4 operator items normal small is c.in_ok-items.ensures.follows)
