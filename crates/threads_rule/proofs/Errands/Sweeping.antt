-- What a seat knows once its walk or its retaining has taken a step, and once that was asked for its next pair, or told whether one is to be kept.
use Rattle.std.specs.Prelude.{nat_lt, if◌then◌else◌, Ok}
use Rattle.std.proofs.Common.{◌≡◌, ℕ, Bool, true, false, refl, sym, subst, ap, ◌∙◌}
use Rattle.map_tables.specs.declared.node.Node.{Node}
use Rattle.papaya_raw.specs.Given.ReservesDeclared.sweep.Purpose.{Purpose}
use Rattle.papaya_raw.specs.Given.ReservesDeclared.sweep.Purpose.TheVariants.{Walks, Clears, Retains}
use Rattle.papaya_raw.specs.Given.ReservesDeclared.sweep.Sweep.{Sweep}
use Rattle.papaya_raw.specs.Given.ReservesDeclared.sweep.Sweeping.{Sweeping}
use Rattle.papaya_raw.specs.Given.ReservesDeclared.sweep.Sweeping.TheVariants as at
use Rattle.papaya_raw.specs.Given.ReservesDeclared.sweep.Swept.{Swept}
use Rattle.papaya_raw.specs.Given.ReservesDeclared.sweep.Swept.TheVariants as swept
use Rattle.papaya_raw.specs.Given.SweepsSweep.{sweep_plan}
use Rattle.papaya_raw.specs.Given.SweepsSweepPoints.{after_next, next_at, reply_at, standing}
use Rattle.papaya_raw.specs.Machine.{machine_asked, machine_replied, swept as of_sweep, sweep_with_reply}
use Rattle.papaya_raw.specs.declared.machines.asking.MachineReply.{MachineReply}
use Rattle.papaya_raw.specs.declared.machines.asking.MachineReply.TheVariants as reply
use Rattle.papaya_raw.specs.declared.machines.machine.Machine.{Machine}
use Rattle.papaya_raw.specs.declared.machines.machine.Machine.TheVariants as kinds
use Rattle.papaya_raw.specs.declared.machines.progress.Progress.{Progress}
use Rattle.threads_kinds.specs.CallKinds.Kinds.{PairIsVisible}
use Rattle.threads_kinds.specs.CallKinds.Shows.{ReadsWord, ReadPairIsVisible, ProgressNamesPair}
use Rattle.threads_kinds.specs.CallKinds.Sweeps.{IsFor, MayBeAt, OutcomeAgreesBy}
use Rattle.threads_rule.specs.Views.Begun.{asked, replied}
use Rattle.threads_rule.specs.Views.Looks.{shown_in}
use Rattle.threads_rule.specs.Views.Told.{call_after}
use Rattle.threads_rule.specs.declared.view.View.{View}
use Rattle.threads_rule.specs.Errands.Calling.{MayStep, StepsTo, Works}
use Rattle.threads_rule.specs.Errands.Looking.{StaysThere}
use Rattle.threads_rule.specs.Errands.Sweeping.{AsksNot, GoesOver, IsAskingOf, IsReady, IsSweeping, MayGoOver, RetainedSo, WalkedSo}
use Rattle.threads_kinds.proofs.CallKinds.Leads.{leads_as}
use Rattle.threads_kinds.proofs.CallKinds.Sweeps.{further_so, sweep_says}
use Rattle.threads_rule.proofs.Errands.Swept.{TellsFrom, goes_not, tells_from}
use Rattle.threads_rule.proofs.Errands.Stepping.{works_so}

-- any sweep may stand where it begins
reads_first : (p : Purpose) → MayBeAt p at.Reads
reads_first Walks = tt
reads_first Clears = tt
reads_first Retains = tt

-- a walk that is ready, and was asked
next_so : (c : Sweep) → IsFor Walks c → c.stands ≡ at.Ready → IsFor Walks (after_next c) × AsksNot (after_next c).stands
next_so c is ready =
    subst (λ (s : Sweeping). IsFor Walks (next_at s c) × AsksNot (next_at s c).stands) (sym ready) (by (nat_lt c.place c.table.len))
  where
    by : (b : Bool) → IsFor Walks (standing c (if b then at.Words else at.Over)) × AsksNot (if b then at.Words else at.Over)
    by true = (record { is = is.is; here = tt }, tt)
    by false = (record { is = is.is; here = tt }, tt)

-- a retaining that asks, and was told to keep the pair, or not to
kept_so : (c : Sweep) (word : ℕ) → IsFor Retains c → (b : Bool) → IsFor Retains (reply_at (at.Asks word) c b) × AsksNot (reply_at (at.Asks word) c b).stands
kept_so c word is true = (further_so Retains c is, goes_not c)
kept_so c word is false = (record { is = is.is; here = tt }, tt)

module _ {K V S : Type 0} (hasher : S) where
  -- its next step may be taken
  pub may_sweep : (purpose : Purpose) (machine : Machine K V K) (v : View K V S) → IsSweeping purpose hasher machine v → MayStep hasher machine v
  may_sweep purpose (kinds.Sweep c) v is = record { at = is.at; steady = tt }
  may_sweep purpose (kinds.Key c) v is = absurd is.goes
  may_sweep purpose (kinds.Reserve c) v is = absurd is.goes
  may_sweep purpose (kinds.Count c) v is = absurd is.goes

  -- one that begins goes over all
  pub is_sweeping : (same : K → K → Bool) (hash : S → K → ℕ) (purpose : Purpose) (machine : Machine K V K) (v w : View K V S) → MayGoOver same hash purpose hasher machine v → Works hasher machine w
      → IsSweeping purpose hasher machine w
  is_sweeping same hash purpose machine v w may works =
      record { at = works; goes = subst (GoesOver purpose) (sym may.is) (record { is = refl; here = reads_first purpose }, tt) }

  module _ (same : K → K → Bool) (hash : S → K → ℕ) (v w : View K V S) where
    -- what is shown of a pair that was read
    abbrev Shown : Sweep → Progress (Node K V) → Type 0
    Shown c told = ReadsWord c.stands → (word : ℕ) → ProgressNamesPair told word → PairIsVisible (shown_in w.held) word

    abbrev After : Sweep → Swept (Node K V) → Type 0
    After d told = w.work ≡ call_after (of_sweep {K = K} {V = V} {Q = K} (d, told)).0 (of_sweep {K = K} {V = V} {Q = K} (d, told)).1

    -- a walk by what its step tells
    walk_came : (c d : Sweep) (told : Swept (Node K V)) → Works hasher (kinds.Sweep c) v → StaysThere v w → IsFor Walks d → OutcomeAgreesBy Walks d told → TellsFrom c.stands (d, told) → After d told
        → Shown c (of_sweep {K = K} {V = V} {Q = K} (d, told)).1 → WalkedSo hasher (of_sweep {K = K} {V = V} {Q = K} (d, told)).0 (of_sweep {K = K} {V = V} {Q = K} (d, told)).1 w
    walk_came c d swept.Goes at_it stays is tells from work shows = record { at = works_so hasher (kinds.Sweep c) (kinds.Sweep d) v w at_it stays work; goes = (is, from) }
    walk_came c d swept.Waits at_it stays is tells from work shows = record { at = works_so hasher (kinds.Sweep c) (kinds.Sweep d) v w at_it stays work; goes = (is, from) }
    walk_came c d (swept.Gave value) at_it stays is tells from work shows = record { at = works_so hasher (kinds.Sweep c) (kinds.Sweep d) v w at_it stays work; goes = (is, from) }
    walk_came c d swept.Ready at_it stays is tells from work shows = record { at = works_so hasher (kinds.Sweep c) (kinds.Sweep d) v w at_it stays work; ready = (is, tells) }
    walk_came c d (swept.Pair word) at_it stays is tells from work shows =
        (record { at = works_so hasher (kinds.Sweep c) (kinds.Sweep d) v w at_it stays work; ready = (is, tells) }, shows from word refl)
    walk_came c d (swept.Asks word) at_it stays is tells from work shows = absurd tells
    walk_came c d swept.Done at_it stays is tells from work shows = work
    walk_came c d (swept.Refused fault) at_it stays is tells from work shows = work

    -- and a retaining
    retain_came : (c d : Sweep) (told : Swept (Node K V)) → Works hasher (kinds.Sweep c) v → StaysThere v w → IsFor Retains d → OutcomeAgreesBy Retains d told → TellsFrom c.stands (d, told) → After d told
        → Shown c (of_sweep {K = K} {V = V} {Q = K} (d, told)).1 → RetainedSo hasher (of_sweep {K = K} {V = V} {Q = K} (d, told)).0 (of_sweep {K = K} {V = V} {Q = K} (d, told)).1 w
    retain_came c d swept.Goes at_it stays is tells from work shows = record { at = works_so hasher (kinds.Sweep c) (kinds.Sweep d) v w at_it stays work; goes = (is, from) }
    retain_came c d swept.Waits at_it stays is tells from work shows = record { at = works_so hasher (kinds.Sweep c) (kinds.Sweep d) v w at_it stays work; goes = (is, from) }
    retain_came c d (swept.Gave value) at_it stays is tells from work shows = record { at = works_so hasher (kinds.Sweep c) (kinds.Sweep d) v w at_it stays work; goes = (is, from) }
    retain_came c d swept.Ready at_it stays is tells from work shows = absurd tells
    retain_came c d (swept.Pair word) at_it stays is tells from work shows = absurd tells
    retain_came c d (swept.Asks word) at_it stays is tells from work shows =
        (record { at = works_so hasher (kinds.Sweep c) (kinds.Sweep d) v w at_it stays work; asks = (is, tells) }, shows from word refl)
    retain_came c d swept.Done at_it stays is tells from work shows = work
    retain_came c d (swept.Refused fault) at_it stays is tells from work shows = work

    pub walked_so : (machine next : Machine K V K) (told : Progress (Node K V)) → IsSweeping Walks hasher machine v → StepsTo same hash hasher machine next told v w → WalkedSo hasher next told w
    walked_so (kinds.Sweep c) next told is stepped =
        let l = leads_as of_sweep (shown_in w.held) (sweep_plan (hash hasher) c) (next, told) stepped.leads in
        let so = sweep_says (hash hasher) Walks c is.goes.0 (shown_in w.held) l.0 l.1 in
        subst (λ (x : Machine K V K × Progress (Node K V)). WalkedSo hasher x.0 x.1 w) (sym l.2)
        (walk_came c l.0.0 l.0.1 is.at stepped.stays so.0 so.1 (tells_from (hash hasher) c (shown_in w.held) l.0 is.goes.1 l.1)
        (stepped.work ∙ ap (λ (x : Machine K V K × Progress (Node K V)). call_after x.0 x.1) l.2)
        (subst (λ (x : Machine K V K × Progress (Node K V)). ReadPairIsVisible {K = K} {V = V} {Q = K} (kinds.Sweep c) x.1 (shown_in w.held)) l.2 stepped.shows.0))
    walked_so (kinds.Key c) next told is stepped = absurd is.goes
    walked_so (kinds.Reserve c) next told is stepped = absurd is.goes
    walked_so (kinds.Count c) next told is stepped = absurd is.goes

    pub retained_so : (machine next : Machine K V K) (told : Progress (Node K V)) → IsSweeping Retains hasher machine v → StepsTo same hash hasher machine next told v w
        → RetainedSo hasher next told w
    retained_so (kinds.Sweep c) next told is stepped =
        let l = leads_as of_sweep (shown_in w.held) (sweep_plan (hash hasher) c) (next, told) stepped.leads in
        let so = sweep_says (hash hasher) Retains c is.goes.0 (shown_in w.held) l.0 l.1 in
        subst (λ (x : Machine K V K × Progress (Node K V)). RetainedSo hasher x.0 x.1 w) (sym l.2)
        (retain_came c l.0.0 l.0.1 is.at stepped.stays so.0 so.1 (tells_from (hash hasher) c (shown_in w.held) l.0 is.goes.1 l.1)
        (stepped.work ∙ ap (λ (x : Machine K V K × Progress (Node K V)). call_after x.0 x.1) l.2)
        (subst (λ (x : Machine K V K × Progress (Node K V)). ReadPairIsVisible {K = K} {V = V} {Q = K} (kinds.Sweep c) x.1 (shown_in w.held)) l.2 stepped.shows.0))
    retained_so (kinds.Key c) next told is stepped = absurd is.goes
    retained_so (kinds.Reserve c) next told is stepped = absurd is.goes
    retained_so (kinds.Count c) next told is stepped = absurd is.goes

  pub asked_so : (machine : Machine K V K) (v w : View K V S) → IsReady hasher machine v → w ≡ asked v machine → IsSweeping Walks hasher (machine_asked machine).0 w
  asked_so (kinds.Sweep c) v w is view = record {
    at =
        record {
          map = is.at.map;
          knows = ap (λ (u : View K V S). u.map) view ∙ is.at.knows;
          hashes = is.at.hashes;
          works = ap (λ (u : View K V S). u.work) view;
        };
    goes = next_so c is.ready.0 is.ready.1;
  }
  asked_so (kinds.Key c) v w is view = absurd is.ready
  asked_so (kinds.Reserve c) v w is view = absurd is.ready
  asked_so (kinds.Count c) v w is view = absurd is.ready

  module _ (word : ℕ) (v w : View K V S) where
    replied_at : (c : Sweep) (told : MachineReply V) → IsAskingOf hasher word (kinds.Sweep c) v → w ≡ replied v (kinds.Sweep c) told
        → IsFor Retains (sweep_with_reply (at.Asks word) c told).0 × AsksNot (sweep_with_reply (at.Asks word) c told).0.stands → IsSweeping Retains hasher (machine_replied (kinds.Sweep c) told).0 w
    replied_at c told is view goes = record {
      at =
          record {
            map = is.at.map;
            knows = ap (λ (u : View K V S). u.map) view ∙ is.at.knows;
            hashes = is.at.hashes;
            works = ap (λ (u : View K V S). u.work) view;
          };
      goes = subst (λ (s : Sweeping). IsFor Retains (sweep_with_reply s c told).0 × AsksNot (sweep_with_reply s c told).0.stands) (sym is.asks.1) goes;
    }

    pub replied_so : (machine : Machine K V K) (told : MachineReply V) → IsAskingOf hasher word machine v → w ≡ replied v machine told → (b : Bool) → told ≡ (if b then reply.Yes else reply.No)
        → IsSweeping Retains hasher (machine_replied machine told).0 w × ((machine_replied machine told).1 ≡ Ok tt)
    replied_so (kinds.Sweep c) told is view b says = (replied_at c told is view (goes b says), taken b says)
      where
        goes : (k : Bool) → told ≡ (if k then reply.Yes else reply.No) → IsFor Retains (sweep_with_reply (at.Asks word) c told).0 × AsksNot (sweep_with_reply (at.Asks word) c told).0.stands
        goes true e =
            subst (λ (r : MachineReply V). IsFor Retains (sweep_with_reply (at.Asks word) c r).0 × AsksNot (sweep_with_reply (at.Asks word) c r).0.stands) (sym e)
            (subst (λ (s : Sweeping). IsFor Retains (reply_at s c true) × AsksNot (reply_at s c true).stands) (sym is.asks.1) (kept_so c word is.asks.0 true))
        goes false e =
            subst (λ (r : MachineReply V). IsFor Retains (sweep_with_reply (at.Asks word) c r).0 × AsksNot (sweep_with_reply (at.Asks word) c r).0.stands) (sym e)
            (subst (λ (s : Sweeping). IsFor Retains (reply_at s c false) × AsksNot (reply_at s c false).stands) (sym is.asks.1) (kept_so c word is.asks.0 false))

        taken : (k : Bool) → told ≡ (if k then reply.Yes else reply.No) → (machine_replied {K = K} {V = V} {Q = K} (kinds.Sweep c) told).1 ≡ Ok tt
        taken true e = ap (λ (s : Sweeping). (sweep_with_reply s c told).1) is.asks.1 ∙ ap (λ (r : MachineReply V). (sweep_with_reply (at.Asks word) c r).1) e
        taken false e = ap (λ (s : Sweeping). (sweep_with_reply s c told).1) is.asks.1 ∙ ap (λ (r : MachineReply V). (sweep_with_reply (at.Asks word) c r).1) e
    replied_so (kinds.Key c) told is view b says = absurd is.asks
    replied_so (kinds.Reserve c) told is view b says = absurd is.asks
    replied_so (kinds.Count c) told is view b says = absurd is.asks
