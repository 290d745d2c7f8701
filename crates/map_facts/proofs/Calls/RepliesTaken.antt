-- Where a call goes on that is told something: what is so of each state that it may come to is so of that one.
use Rattle.std.specs.Prelude.{◌≡◌, ◌≢◌, ℕ}
use Rattle.std.proofs.Common.{refl, sym, subst}
use Rattle.map_rule.specs.Given.SeizeWordsDeclared.fault.Fault.TheVariants.{RemoveNothing}
use Rattle.papaya_raw.specs.CallAsks.{with_absent, with_present, absent_replied, present_replied, replied_at, replied}
use Rattle.papaya_raw.specs.CallPoints.{standing, ending, answering, burying, at_gap}
use Rattle.papaya_raw.specs.declared.machines.answer.End.TheVariants as ends
use Rattle.papaya_raw.specs.declared.machines.answer.KeyAnswer.TheVariants as answers
use Rattle.papaya_raw.specs.declared.machines.asking.Asking.TheVariants as asking
use Rattle.papaya_raw.specs.declared.machines.asking.Gap.{Gap}
use Rattle.papaya_raw.specs.declared.machines.asking.MachineReply.{MachineReply}
use Rattle.papaya_raw.specs.declared.machines.asking.MachineReply.TheVariants as reply
use Rattle.papaya_raw.specs.declared.machines.asking.Takes.{Takes}
use Rattle.papaya_raw.specs.declared.machines.asking.Takes.TheVariants as takes
use Rattle.papaya_raw.specs.declared.machines.asking.Told.TheVariants as tells
use Rattle.papaya_raw.specs.declared.machines.call.KeyCall.{KeyCall}
use Rattle.papaya_raw.specs.declared.machines.call.Calling.{Calling}
use Rattle.papaya_raw.specs.declared.machines.call.Calling.TheVariants as at

-- it is told values
abbrev pub TakesValues : Takes → Type 0
TakesValues takes.Values = Unit {0}
TakesValues takes.Changes = Unit {0}
TakesValues _ = ⊥

pub takes_more : (x : Takes) → TakesValues x → (x ≢ takes.Choices) × (x ≢ takes.Nothing)
takes_more takes.Values so = (λ e. cc e, λ e. cc e)
takes_more takes.Changes so = (λ e. cc e, λ e. cc e)
takes_more takes.Choices so = absurd so
takes_more takes.Nothing so = absurd so

module _ {K V Q : Type 0} (p : KeyCall K V Q) (So : KeyCall K V Q → Type 0) where
  -- it goes on asking, where it does not take the reply; or it was told what to do where its key is missing, or with the pair of a word
  pub record IsSoOfAll : Type 0 where
    pub asks_on : So p
    pub stores : (gap : Gap) (value : V) → p.stands ≡ at.Asks (asking.Absent gap) → TakesValues p.replies.takes → So (at_gap gap (with_absent p value)).0
    pub removes_none : (gap : Gap) → p.stands ≡ at.Asks (asking.Absent gap) → p.replies.takes ≡ takes.Changes → So (ending p (ends.Refused RemoveNothing)).0
    pub answers_none : (gap : Gap) → p.stands ≡ at.Asks (asking.Absent gap) → p.replies.takes ≡ takes.Changes → So (answering p answers.Absent).0
    pub replaces : (word : ℕ) (value : V) → p.stands ≡ at.Asks (asking.Present word) → TakesValues p.replies.takes → So (standing (with_present p word (tells.Value value)) (at.Asks (asking.Fills word)))
    pub removes : (word : ℕ) → p.stands ≡ at.Asks (asking.Present word) → p.replies.takes ≡ takes.Changes → So (burying (with_present p word tells.Removes) word).0
    pub buries : (word : ℕ) → p.stands ≡ at.Asks (asking.Present word) → p.replies.takes ≡ takes.Choices → So (burying p word).0
    pub answers : (word : ℕ) → p.stands ≡ at.Asks (asking.Present word) → So (answering p (answers.Found word)).0

  module _ (so : IsSoOfAll) where
    absent_so : (x : Takes) → p.replies.takes ≡ x → (gap : Gap) → p.stands ≡ at.Asks (asking.Absent gap) → (r : MachineReply V) → So (absent_replied x p gap r).0
    absent_so takes.Values e gap here (reply.Insert value) = so.stores gap value here (subst TakesValues (sym e) tt)
    absent_so takes.Values e gap here reply.Remove = so.asks_on
    absent_so takes.Values e gap here reply.Abort = so.asks_on
    absent_so takes.Values e gap here reply.Yes = so.asks_on
    absent_so takes.Values e gap here reply.No = so.asks_on
    absent_so takes.Changes e gap here (reply.Insert value) = so.stores gap value here (subst TakesValues (sym e) tt)
    absent_so takes.Changes e gap here reply.Remove = so.removes_none gap here e
    absent_so takes.Changes e gap here reply.Abort = so.answers_none gap here e
    absent_so takes.Changes e gap here reply.Yes = so.asks_on
    absent_so takes.Changes e gap here reply.No = so.asks_on
    absent_so takes.Nothing e gap here r = so.asks_on
    absent_so takes.Choices e gap here r = so.asks_on

    present_so : (x : Takes) → p.replies.takes ≡ x → (word : ℕ) → p.stands ≡ at.Asks (asking.Present word) → (r : MachineReply V) → So (present_replied x p word r).0
    present_so takes.Values e word here (reply.Insert value) = so.replaces word value here (subst TakesValues (sym e) tt)
    present_so takes.Values e word here reply.Remove = so.asks_on
    present_so takes.Values e word here reply.Abort = so.asks_on
    present_so takes.Values e word here reply.Yes = so.asks_on
    present_so takes.Values e word here reply.No = so.asks_on
    present_so takes.Changes e word here (reply.Insert value) = so.replaces word value here (subst TakesValues (sym e) tt)
    present_so takes.Changes e word here reply.Remove = so.removes word here e
    present_so takes.Changes e word here reply.Abort = so.answers word here
    present_so takes.Changes e word here reply.Yes = so.asks_on
    present_so takes.Changes e word here reply.No = so.asks_on
    present_so takes.Choices e word here reply.Yes = so.buries word here e
    present_so takes.Choices e word here reply.No = so.answers word here
    present_so takes.Choices e word here (reply.Insert value) = so.asks_on
    present_so takes.Choices e word here reply.Remove = so.asks_on
    present_so takes.Choices e word here reply.Abort = so.asks_on
    present_so takes.Nothing e word here r = so.asks_on

    told_so : (stands : Calling) → p.stands ≡ stands → (r : MachineReply V) → So (replied_at stands p r).0
    told_so (at.Asks (asking.Absent gap)) here r = absent_so p.replies.takes refl gap here r
    told_so (at.Asks (asking.Present word)) here r = present_so p.replies.takes refl word here r
    told_so (at.Asks (asking.Fills word)) here r = so.asks_on
    told_so (at.Asks (asking.GivesUp word)) here r = so.asks_on
    told_so at.Makes here r = so.asks_on
    told_so (at.Looks l) here r = so.asks_on
    told_so at.Roots here r = so.asks_on
    told_so at.Probes here r = so.asks_on
    told_so (at.Tries word new) here r = so.asks_on
    told_so (at.Counts removed) here r = so.asks_on
    told_so at.Nexts here r = so.asks_on
    told_so (at.Firsts making) here r = so.asks_on
    told_so (at.Allocs making) here r = so.asks_on
    told_so (at.Helps copier goal) here r = so.asks_on
    told_so (at.Copies copier) here r = so.asks_on
    told_so (at.Disposes d answer) here r = so.asks_on
    told_so (at.Drops end) here r = so.asks_on
    told_so (at.Over end) here r = so.asks_on

    pub replied_so : (r : MachineReply V) → So (replied p r).0
    replied_so r = told_so p.stands refl r
