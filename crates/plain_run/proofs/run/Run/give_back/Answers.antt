use Rattle.std.proofs.Common.{◌≡◌, [], ◌∷◌, ◌++◌, to_z, of_z, w32, rules}
use Rattle.plain_run.specs.Stacks.{config_with}
use Rattle.plain_run.specs.Code.Frames.{dest_of, seen_items, seen_frames}
use Rattle.plain_run.specs.Values.{seen_value, number_of}
use Rattle.plain_run.proofs.MachineLaws.{hands, ends}
use Rattle.plain_run.proofs.run.Run.give_back.Goals as goal

pub returns-in_default-clause-done : goal.returns-in_default-clause-done
returns-in_default-clause-done g c = λ a.
    let see = g.E.Look.seen in
    let m = c.args.self.now in
    let R = g.E.Look.rules m.environment in
    let s = g.E.Look.state m.environment in
    let none : m.stack.below.items ≡ [] = search rules in
    let is : to_z w32 (of_z w32 c.number.result) ≡ number_of c.given-given.result = search rules in
    ends see R s m.stack.top m.stack.below (seen_value see.function c.args.value) c.given-given.result (to_z w32 (of_z w32 c.number.result))
    (config_with see s m.stack) a none (c.given-given.ensures R.access) is

pub returns-in-Ok-clause-done : goal.returns-in-Ok-clause-done
returns-in-Ok-clause-done g c = λ a.
    let see = g.E.Look.seen in
    let m = c.args.self.now in
    let R = g.E.Look.rules m.environment in
    let s = g.E.Look.state m.environment in
    let frame = c.in-Some.frame in
    let popped : m.stack.below.items ≡ c.pop.new.self.items ++ frame ∷ [] = search rules in
    hands see R s (g.E.Look.state c.store_result.new.environment) m.stack.top frame (record frame { locals = c.store_result.new.locals }) m.stack.below c.pop.new.self m.stack.over
    (seen_value see.function c.args.value) c.given-given.result (config_with see s m.stack) a c.requires popped (c.given-given.ensures R.access)
    (c.in-Ok.ensures.stored (seen_items frame.rest.items) (dest_of frame.dest) frame.gives (seen_frames see c.pop.new.self))
