use Rattle.std.proofs.Common.{◌≡◌, ◌<◌, ◌≤◌, false, is_none, OnOk, sym, ap, ◌∙◌, subst}
use Rattle.terms.specs.Sizes.{sequent_size}
use Rattle.wp_conditions.specs.Code.Growing.{room_in, with_one}
use Rattle.wp_conditions.proofs.GrowingLaws.{size_within, size_past, one_sequent, no_sequent}
use Rattle.wp_conditions.proofs.made.Made.add_sequent.Goals as goal

pub returns-then-size-room : goal.returns-then-size-room
returns-then-size-room c =
    let has_list : is_none c.args.self.now ≡ false = sym c.is_full.ensures ∙ c.if-is_full.false in
    let room : c.size.result ≤ room_in c.args.self.now = subst (λ r. c.size.result ≤ r) c.room.ensures c.if-size-room.true in
    let small : sequent_size c.args.sequent ≤ room_in c.args.self.now = size_within c.args.self.now c.size.result (sequent_size c.args.sequent) c.size.ensures room in
    subst (λ m. OnOk c.push.result (c.push.new.self ≡ m))
    (ap (with_one c.args.self.now) c.in_ok-sorted.ensures
    ∙ one_sequent c.args.sorts.now.0 c.args.sorts.now.1 c.args.sequent c.args.self.now has_list small)
    c.push.ensures

pub returns : goal.returns
returns c =
    no_sequent c.args.sorts.now.0 c.args.sorts.now.1 c.args.sequent c.args.self.now
    (size_past c.args.self.now c.size.result (sequent_size c.args.sequent) c.size.ensures
    (subst (λ r. r < c.size.result) c.room.ensures c.if-size-room.false))
