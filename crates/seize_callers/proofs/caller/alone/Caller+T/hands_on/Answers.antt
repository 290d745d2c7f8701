use Rattle.std.proofs.Common.{subst}
use Rattle.seize_views.specs.Views.Begun.{Hands}
use Rattle.seize_callers.proofs.Resting.{handed}
use Rattle.seize_views.specs.Views.Resting.{upright}
use Rattle.seize_callers.proofs.Owning.{bears, may_hand_on, owes_told, cuts_told, rests_told}
use Rattle.seize_callers.proofs.caller.alone.Caller+T.hands_on.Goals as goal

pub meet-requires-clause-may : goal.meet-requires-clause-may
meet-requires-clause-may g c =
    let x = c.args.self.now in let taker = c.args.taker.now in
    may_hand_on g.T.Defers.defers x.blocks.now.words.fixed x.seat.id x.seat.view taker.id c.args._block taker.view (bears c.args._block x.seat.view.knows c.requires.bears) c.requires.takes

pub returns-clause-outside : goal.returns-clause-outside
returns-clause-outside g c =
    let x = c.args.self.now in let taker = c.args.taker.now in
    λ on. owes_told x.blocks.now.words.fixed x.seat.view.knows taker.view.knows c.meet.new.one.view.knows c.meet.new.other.view.knows c.args._slot c.args._block
    (bears c.args._block x.seat.view.knows c.requires.bears) on c.meet.ensures.goes.0

pub returns-clause-inside : goal.returns-clause-inside
returns-clause-inside g c =
    let x = c.args.self.now in let taker = c.args.taker.now in
    λ has looks on. cuts_told x.blocks.now.words.fixed x.seat.view.knows taker.view.knows c.meet.new.one.view.knows c.meet.new.other.view.knows c.args._slot c.args._block
    has looks (bears c.args._block x.seat.view.knows c.requires.bears) on c.meet.ensures.goes.0

pub returns-clause-did : goal.returns-clause-did
returns-clause-did g c = c.meet.ensures.goes.2.0

pub returns-clause-rests : goal.returns-clause-rests
returns-clause-rests g c =
    let x = c.args.self.now in let taker = c.args.taker.now in
    rests_told x.blocks.now.words.fixed x.seat.view.knows taker.view.knows c.meet.new.one.view.knows c.meet.new.other.view.knows c.args._slot c.args._block
    c.requires.takes (bears c.args._block x.seat.view.knows c.requires.bears) c.meet.ensures.goes.0

pub meet-requires-clause-errand : goal.meet-requires-clause-errand
meet-requires-clause-errand g c = λ p q so.
    let x = c.args.self.now in let taker = c.args.taker.now in let fixed = x.blocks.now.words.fixed in let k =
    handed fixed c.args._block taker.view.knows p.knows q.knows c.requires.takes
    (subst (λ v. Hands fixed v taker.view.knows p.knows q.knows) (bears c.args._block x.seat.view.knows c.requires.bears) so.0) in
    (λ home rests. k.0, λ home rests. k.1)

pub meet-requires-clause-leans : goal.meet-requires-clause-leans
meet-requires-clause-leans g c = λ p q so.
    let x = c.args.self.now in let taker = c.args.taker.now in let fixed = x.blocks.now.words.fixed in let k =
    handed fixed c.args._block taker.view.knows p.knows q.knows c.requires.takes
    (subst (λ v. Hands fixed v taker.view.knows p.knows q.knows) (bears c.args._block x.seat.view.knows c.requires.bears) so.0) in
    (λ n leans. absurd (upright p n k.0 leans), λ n leans. absurd (upright q n k.1 leans))
