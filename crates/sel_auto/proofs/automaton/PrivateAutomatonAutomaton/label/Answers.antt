use Rattle.sel_auto.proofs.Calls.{hit, leaves, is_counted, is_labelled, grows, adds, ready, fixed}
use Rattle.sel_auto.proofs.Ways.{Before, known_before_call}
use Rattle.sel_auto.proofs.automaton.PrivateAutomatonAutomaton.label.Goals as goal

pub returns-clause-hit : goal.returns-clause-hit
returns-clause-hit g c =
    let known : Before c.args.self.now = known_before_call c.args.self.now c.keys.result c.keys.ensures.is c.keys.ensures.within c.states.ensures.differ c.keys.ensures.differ c.keys.ensures.follow c.follows_is_one.ensures in
    hit c.args.self.now c.answer.new.self c.args.steps.now c.answer.new.steps c.args.operator c.args.class c.args.kids.0 c.args.kids.1 known (c.requires.kids).0 (c.requires.kids).1 c.answer.result c.answer.ensures.answered c.answer.ensures.refused

pub returns-clause-leaves : goal.returns-clause-leaves
returns-clause-leaves g c =
    let known : Before c.args.self.now = known_before_call c.args.self.now c.keys.result c.keys.ensures.is c.keys.ensures.within c.states.ensures.differ c.keys.ensures.differ c.keys.ensures.follow c.follows_is_one.ensures in
    leaves c.args.self.now c.answer.new.self c.args.steps.now c.answer.new.steps c.args.operator c.args.class c.args.kids.0 c.args.kids.1 known (c.requires.kids).0 (c.requires.kids).1 c.answer.result c.answer.ensures.answered c.answer.ensures.refused

pub returns-clause-counted : goal.returns-clause-counted
returns-clause-counted g c =
    let known : Before c.args.self.now = known_before_call c.args.self.now c.keys.result c.keys.ensures.is c.keys.ensures.within c.states.ensures.differ c.keys.ensures.differ c.keys.ensures.follow c.follows_is_one.ensures in
    is_counted c.args.self.now c.answer.new.self c.args.steps.now c.answer.new.steps c.args.operator c.args.class c.args.kids.0 c.args.kids.1 known (c.requires.kids).0 (c.requires.kids).1 c.answer.result c.answer.ensures.answered c.answer.ensures.refused c.answer.ensures.steps

pub returns-clause-labelled : goal.returns-clause-labelled
returns-clause-labelled g c =
    let known : Before c.args.self.now = known_before_call c.args.self.now c.keys.result c.keys.ensures.is c.keys.ensures.within c.states.ensures.differ c.keys.ensures.differ c.keys.ensures.follow c.follows_is_one.ensures in
    is_labelled c.args.self.now c.answer.new.self c.args.steps.now c.answer.new.steps c.args.operator c.args.class c.args.kids.0 c.args.kids.1 known (c.requires.kids).0 (c.requires.kids).1 c.answer.result c.answer.ensures.answered c.answer.ensures.refused

pub returns-clause-grows : goal.returns-clause-grows
returns-clause-grows g c =
    let known : Before c.args.self.now = known_before_call c.args.self.now c.keys.result c.keys.ensures.is c.keys.ensures.within c.states.ensures.differ c.keys.ensures.differ c.keys.ensures.follow c.follows_is_one.ensures in
    grows c.args.self.now c.answer.new.self c.args.steps.now c.answer.new.steps c.args.operator c.args.class c.args.kids.0 c.args.kids.1 known (c.requires.kids).0 (c.requires.kids).1 c.answer.result c.answer.ensures.answered c.answer.ensures.refused

pub returns-clause-adds : goal.returns-clause-adds
returns-clause-adds g c =
    let known : Before c.args.self.now = known_before_call c.args.self.now c.keys.result c.keys.ensures.is c.keys.ensures.within c.states.ensures.differ c.keys.ensures.differ c.keys.ensures.follow c.follows_is_one.ensures in
    adds c.args.self.now c.answer.new.self c.args.steps.now c.answer.new.steps c.args.operator c.args.class c.args.kids.0 c.args.kids.1 known (c.requires.kids).0 (c.requires.kids).1 c.answer.result c.answer.ensures.answered c.answer.ensures.refused

pub returns-clause-ready : goal.returns-clause-ready
returns-clause-ready g c =
    let known : Before c.args.self.now = known_before_call c.args.self.now c.keys.result c.keys.ensures.is c.keys.ensures.within c.states.ensures.differ c.keys.ensures.differ c.keys.ensures.follow c.follows_is_one.ensures in
    ready c.args.self.now c.answer.new.self c.args.steps.now c.answer.new.steps c.args.operator c.args.class c.args.kids.0 c.args.kids.1 known (c.requires.kids).0 (c.requires.kids).1 c.answer.result c.answer.ensures.answered c.answer.ensures.refused

pub returns-clause-fixed : goal.returns-clause-fixed
returns-clause-fixed g c =
    let known : Before c.args.self.now = known_before_call c.args.self.now c.keys.result c.keys.ensures.is c.keys.ensures.within c.states.ensures.differ c.keys.ensures.differ c.keys.ensures.follow c.follows_is_one.ensures in
    fixed c.args.self.now c.answer.new.self c.args.steps.now c.answer.new.steps c.args.operator c.args.class c.args.kids.0 c.args.kids.1 known (c.requires.kids).0 (c.requires.kids).1 c.answer.result c.answer.ensures.answered c.answer.ensures.refused
