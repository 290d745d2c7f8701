-- What a call has met at the tries of its table is so by whatever follows from what it was so by; and so it is where it goes on by a reply.
use Rattle.std.specs.Prelude.{◌≡◌, ◌≤◌, ◌==◌, ℕ, zero, suc, Bool, true, false, if◌then◌else◌}
use Rattle.std.proofs.Common.{refl, subst, arith, inl, inr}
use Rattle.std.proofs.lemmas.Bool.{cases_eq}
use Rattle.papaya_raw.specs.Given.TablesDeclared.marks.TheConstants.{TOMBSTONE}
use Rattle.papaya_raw.specs.Given.TablesDeclared.node.Node.{Node}
use Rattle.papaya_raw.specs.CallAsks.{absent_replied, present_replied, replied, replied_at, with_absent, with_present}
use Rattle.papaya_raw.specs.CallPoints.{at_gap, burying, ending, going, over, storing}
use Rattle.papaya_raw.specs.Machine.{machine_asked, machine_replied}
use Rattle.papaya_raw.specs.declared.machines.answer.Called.{Called}
use Rattle.papaya_raw.specs.declared.machines.answer.End.{End}
use Rattle.papaya_raw.specs.declared.machines.asking.Asking.{Asking}
use Rattle.papaya_raw.specs.declared.machines.asking.Asking.TheVariants as asking
use Rattle.papaya_raw.specs.declared.machines.asking.Gap.{Gap}
use Rattle.papaya_raw.specs.declared.machines.asking.Gap.TheVariants as gaps
use Rattle.papaya_raw.specs.declared.machines.asking.MachineReply.{MachineReply}
use Rattle.papaya_raw.specs.declared.machines.asking.MachineReply.TheVariants as replies
use Rattle.papaya_raw.specs.declared.machines.asking.Takes.{Takes}
use Rattle.papaya_raw.specs.declared.machines.asking.Takes.TheVariants as takes
use Rattle.papaya_raw.specs.declared.machines.asking.Told.{Told}
use Rattle.papaya_raw.specs.declared.machines.asking.Told.TheVariants as tells
use Rattle.papaya_raw.specs.declared.machines.call.Calling.{Calling}
use Rattle.papaya_raw.specs.declared.machines.call.Calling.TheVariants as at
use Rattle.papaya_raw.specs.declared.machines.call.KeyCall.{KeyCall}
use Rattle.papaya_raw.specs.declared.machines.machine.Machine.{Machine}
use Rattle.papaya_raw.specs.declared.machines.machine.Machine.TheVariants as kinds
use Rattle.run_schedules.specs.declared.effect.Spot.{Spot}
use Rattle.run_grows.specs.Grows.Tries.{HasTried, MachineTried, MeetsBy, TriedAsking, TriedAt, TriedAtGap}

module _ (A B : Spot × ℕ → Type 0) (leads : (x : Spot × ℕ) → A x → B x) where
  pub meets_more : (turn len hash tries met : ℕ) → MeetsBy A turn len hash tries met → MeetsBy B turn len hash tries met
  meets_more turn len hash zero met so = so
  meets_more turn len hash (suc try) met (before, pairs, rest, why, sum) = (before, pairs, meets_more turn len hash try before rest, leads _ why, sum)

  module _ {K V Q : Type 0} (p : KeyCall K V Q) where
    tried_more : (tries : ℕ) → HasTried A p tries → HasTried B p tries
    tried_more tries (few, so) = (few, meets_more p.trial.table.turn p.trial.table.len p.hash tries p.trial.met so)

    gap_more : (gap : Gap) → TriedAtGap A p gap → TriedAtGap B p gap
    gap_more gaps.NoTable so = so
    gap_more gaps.Free so = tried_more p.trial.probe.len so
    gap_more gaps.Past so = tried_more (suc p.trial.table.limit) so
    gap_more gaps.Last so = tried_more (suc p.trial.table.limit) so

    asking_more : (a : Asking) → TriedAsking A p a → TriedAsking B p a
    asking_more (asking.Absent gap) so = gap_more gap so
    asking_more (asking.Present word) so = tried_more p.trial.probe.len so
    asking_more (asking.Fills word) so = tried_more p.trial.probe.len so
    asking_more (asking.GivesUp word) so = tried_more p.trial.probe.len so

    pub at_more : (stands : Calling) → TriedAt A p stands → TriedAt B p stands
    at_more at.Probes so = tried_more p.trial.probe.len so
    at_more (at.Tries word new) so = tried_more p.trial.probe.len so
    at_more (at.Asks a) so = asking_more a so
    at_more at.Nexts so = tried_more (suc p.trial.table.limit) so
    at_more (at.Allocs making) so = tried_more (suc p.trial.table.limit) so
    at_more at.Makes so = so
    at_more (at.Looks lookup) so = so
    at_more at.Roots so = so
    at_more (at.Firsts making) so = so
    at_more (at.Helps copier goal) so = so
    at_more (at.Copies copier) so = so
    at_more (at.Counts removed) so = so
    at_more (at.Disposes dispose answer) so = so
    at_more (at.Drops end) so = so
    at_more (at.Over end) so = so

  pub machine_more : {K V Q : Type 0} (machine : Machine K V Q) → MachineTried A machine → MachineTried B machine
  machine_more (kinds.Key p) so = at_more p p.stands so
  machine_more (kinds.Reserve r) so = so
  machine_more (kinds.Sweep c) so = so
  machine_more (kinds.Count sum) so = so

module _ (Why : Spot × ℕ → Type 0) where
  -- where each place of a table is so with no pair, further tries meet none
  module _ (turn len hash met : ℕ) (all : (x : Spot × ℕ) → x.0.turn ≡ turn → Why x) where
    pub fill : (n k : ℕ) → n ≤ k → MeetsBy Why turn len hash n met → MeetsBy Why turn len hash k met
    fill n zero l so = let none : n ≡ 0 = omega (arith, l) in subst (λ (z : ℕ). MeetsBy Why turn len hash z met) none so
    fill n (suc k) l so = elim (cases_eq n (suc k)) as (λ _. MeetsBy Why turn len hash (suc k) met) [
      | inl e ↦ subst (λ (z : ℕ). MeetsBy Why turn len hash z met) e so
      | inr ne ↦ (met, 0, fill n k (omega (arith, l, ne)) so, all _ refl, omega arith)
    ]

  module _ {K V Q : Type 0} where
    abbrev pub Tried : KeyCall K V Q × Called (Node K V) → Type 0
    Tried e = TriedAt Why e.0 e.0.stands

    pub either : (b : Bool) (x y : KeyCall K V Q × Called (Node K V)) → Tried x → Tried y → Tried (if b then x else y)
    either true x y f g = f
    either false x y f g = g

    pub ending_tried : (p : KeyCall K V Q) (end : End) → Tried (ending p end)
    ending_tried p end = either (p.own == 0) (over p end) (going p (at.Drops end)) tt tt

    pub storing_tried : (p : KeyCall K V Q) → HasTried Why p p.trial.probe.len → (told : Told V) (word : ℕ) → Tried (storing told p word)
    storing_tried p here tells.Nothing word = here
    storing_tried p here (tells.Value value) word = here
    storing_tried p here tells.Own word = here
    storing_tried p here tells.Removes word = here

    pub burying_tried : (p : KeyCall K V Q) → HasTried Why p p.trial.probe.len → (word : ℕ) → Tried (burying p word)
    burying_tried p here word = either (p.own == 0) (going p (at.Tries word TOMBSTONE)) (going p (at.Asks (asking.GivesUp word))) here here

    -- where the key is missing
    pub gap_tried : (p : KeyCall K V Q) (gap : Gap) → TriedAtGap Why p gap → Tried (at_gap gap p)
    gap_tried p gaps.NoTable so = tt
    gap_tried p gaps.Free so = storing_tried p so p.replies.absent 0
    gap_tried p gaps.Past so = so
    gap_tried p gaps.Last so = so

    -- by what it is told
    same_gap : (p : KeyCall K V Q) (value : V) (gap : Gap) → TriedAtGap Why p gap → TriedAtGap Why (with_absent p value) gap
    same_gap p value gaps.NoTable so = so
    same_gap p value gaps.Free so = so
    same_gap p value gaps.Past so = so
    same_gap p value gaps.Last so = so

    absent_tried : (kind : Takes) (p : KeyCall K V Q) (gap : Gap) (reply : MachineReply V) → TriedAt Why p p.stands → TriedAtGap Why p gap → TriedAt Why (absent_replied kind p gap reply).0 (absent_replied kind p gap reply).0.stands
    absent_tried takes.Values p gap (replies.Insert value) self so = gap_tried (with_absent p value) gap (same_gap p value gap so)
    absent_tried takes.Changes p gap (replies.Insert value) self so = gap_tried (with_absent p value) gap (same_gap p value gap so)
    absent_tried takes.Changes p gap replies.Remove self so = ending_tried p _
    absent_tried takes.Changes p gap replies.Abort self so = ending_tried p _
    absent_tried _ p gap _ self so = self

    present_tried : (kind : Takes) (p : KeyCall K V Q) (word : ℕ) (reply : MachineReply V) → TriedAt Why p p.stands → HasTried Why p p.trial.probe.len
        → TriedAt Why (present_replied kind p word reply).0 (present_replied kind p word reply).0.stands
    present_tried takes.Values p word (replies.Insert value) self so = so
    present_tried takes.Changes p word (replies.Insert value) self so = so
    present_tried takes.Changes p word replies.Remove self so = burying_tried (with_present p word tells.Removes) so word
    present_tried takes.Changes p word replies.Abort self so = ending_tried p _
    present_tried takes.Choices p word replies.Yes self so = burying_tried p so word
    present_tried takes.Choices p word replies.No self so = ending_tried p _
    present_tried _ p word _ self so = self

    told_tried_at : (stands : Calling) (p : KeyCall K V Q) (reply : MachineReply V) → TriedAt Why p p.stands → TriedAt Why p stands → TriedAt Why (replied_at stands p reply).0 (replied_at stands p reply).0.stands
    told_tried_at (at.Asks (asking.Absent gap)) p reply self so = absent_tried p.replies.takes p gap reply self so
    told_tried_at (at.Asks (asking.Present word)) p reply self so = present_tried p.replies.takes p word reply self so
    told_tried_at _ p reply self so = self

    key_replies : (p : KeyCall K V Q) (reply : MachineReply V) → TriedAt Why p p.stands → TriedAt Why (replied p reply).0 (replied p reply).0.stands
    key_replies p reply so = told_tried_at p.stands p reply so so

    pub reply_tried : (machine : Machine K V Q) (reply : MachineReply V) → MachineTried Why machine → MachineTried Why (machine_replied machine reply).0
    reply_tried (kinds.Key p) reply so = key_replies p reply so
    reply_tried (kinds.Reserve r) reply so = so
    reply_tried (kinds.Sweep c) reply so = tt
    reply_tried (kinds.Count sum) reply so = so

    pub asked_tried : (machine : Machine K V Q) → MachineTried Why machine → MachineTried Why (machine_asked machine).0
    asked_tried (kinds.Key p) so = so
    asked_tried (kinds.Reserve r) so = so
    asked_tried (kinds.Sweep c) so = tt
    asked_tried (kinds.Count sum) so = so
