-- What a step comes to of a call that asks, or goes by what it was told: what is so of each such outcome is so of it.
use Rattle.std.specs.Prelude.{◌==◌, Ok, Err}
use Rattle.std.proofs.Common.{◌≡◌, ℕ, Bool, true, false, Option, Some, None, refl}
use Rattle.many_maps.specs.Given.SeizeWordsOp.{Out, Found, Stored, Exchanged, Made, Taken, Roomed}
use Rattle.many_maps.specs.Given.SeizeWordsDeclared.fault.Fault.TheVariants.{Memory}
use Rattle.many_maps.specs.Given.RawCallFills.{filled, putting_by, fill_by, emptied, fills_with, given_up, asks_at as plan_of}
use Rattle.many_maps.specs.Given.RawCallPoints.{standing, going}
use Rattle.many_maps.specs.Given.RawReplies.{value_for, as_own}
use Rattle.many_maps.specs.Given.RawDeclared.machines.answer.Called.{Called}
use Rattle.many_maps.specs.Given.RawDeclared.machines.answer.Called.TheVariants.{Goes, Unstored, Asks}
use Rattle.many_maps.specs.Given.RawDeclared.machines.answer.End.TheVariants as ends
use Rattle.many_maps.specs.Given.RawDeclared.machines.asking.Asking.{Asking}
use Rattle.many_maps.specs.Given.RawDeclared.machines.asking.Asking.TheVariants as asking
use Rattle.many_maps.specs.Given.RawDeclared.machines.call.KeyCall.{KeyCall}
use Rattle.many_maps.specs.Given.RawDeclared.machines.call.Calling.TheVariants as at
use Rattle.many_maps.proofs.Given.RuleKeys.Always.{Always, AlwaysOf}
use Rattle.many_maps.specs.Given.TablesDeclared.node.Node.{Node}
use Rattle.many_maps.specs.Given.TablesDeclared.node.Node.TheVariants as nodes

module _ {K V Q : Type 0} (So : KeyCall K V Q × Called (Node K V) → Type 0) (p : KeyCall K V Q)
    (still : (q : KeyCall K V Q) → q.stands ≡ p.stands → So (q, Goes)) (tries : (q : KeyCall K V Q) (word new : ℕ) → So (going q (at.Tries word new)))
    (fills : (q : KeyCall K V Q) (word : ℕ) → So (going q (at.Asks (asking.Fills word)))) (probes : (q : KeyCall K V Q) → So (going q at.Probes))
    (unstored : (q : KeyCall K V Q) (node : Node K V) → So (standing q (at.Over (ends.Refused Memory)), Unstored node)) where
  filled_so : (q : KeyCall K V Q) → q.stands ≡ p.stands → (word : ℕ) (out : Out (Node K V)) → Always So (filled q word out)
  filled_so q same word (Made (Ok block)) = tries (record q { own = _ }) word _
  filled_so q same word (Made (Err node)) = unstored q node
  filled_so q same word (Taken node) = tries q word q.own
  filled_so q same word (Found found) = still q same
  filled_so q same word Stored = still q same
  filled_so q same word (Exchanged r) = still q same
  filled_so q same word (Roomed r) = still q same

  putting_so : (q : KeyCall K V Q) → q.stands ≡ p.stands → (word : ℕ) (key : K) (value : V) (b : Bool) → AlwaysOf So (putting_by b q word key value)
  putting_so q same word key value true = filled_so q same word
  putting_so q same word key value false = filled_so q same word

  fill_so : (told : Option V) (q : KeyCall K V Q) → q.stands ≡ p.stands → (word : ℕ) (key : K) → AlwaysOf So (fill_by told q word key)
  fill_so (Some value) q same word key = putting_so (record q { replies = record q.replies { key = None } }) same word key value (q.own == 0)
  fill_so None q same word key = probes q

  emptied_so : (word : ℕ) (out : Out (Node K V)) → Always So (emptied p word out)
  emptied_so word (Taken (nodes.Pair key value)) = fills (record p { replies = _ }) word
  emptied_so word (Taken (nodes.Table len limit turn)) = probes p
  emptied_so word (Taken nodes.Shards) = probes p
  emptied_so word (Made r) = probes p
  emptied_so word (Found found) = probes p
  emptied_so word Stored = probes p
  emptied_so word (Exchanged r) = probes p
  emptied_so word (Roomed r) = probes p

  given_up_so : (word : ℕ) (out : Out (Node K V)) → Always So (given_up p word out)
  given_up_so word (Taken (nodes.Pair key value)) = tries (record p { replies = _; own = 0 }) word _
  given_up_so word (Taken (nodes.Table len limit turn)) = tries (record p { own = 0 }) word _
  given_up_so word (Taken nodes.Shards) = tries (record p { own = 0 }) word _
  given_up_so word (Made r) = still p refl
  given_up_so word (Found found) = still p refl
  given_up_so word Stored = still p refl
  given_up_so word (Exchanged r) = still p refl
  given_up_so word (Roomed r) = still p refl

  fills_so : (word : ℕ) (key : Option K) → AlwaysOf So (fills_with key p word)
  fills_so word (Some key) = fill_so (value_for p.replies word) (record p { replies = as_own p.replies word }) refl word key
  fills_so word None = emptied_so word

  pub asks_so : ((asks_at : Asking) (asked : Option ℕ) → p.stands ≡ at.Asks asks_at → So (p, Asks asked)) → (asks_at : Asking) → p.stands ≡ at.Asks asks_at → AlwaysOf So (plan_of p asks_at)
  asks_so asks (asking.Absent gap) here = asks (asking.Absent gap) None here
  asks_so asks (asking.Present word) here = asks (asking.Present word) (Some word) here
  asks_so asks (asking.Fills word) here = fills_so word p.replies.key
  asks_so asks (asking.GivesUp word) here = given_up_so word
