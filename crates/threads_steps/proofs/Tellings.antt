-- What a seat knows once its call has taken a step: what the answer of the operation told, or that the step made none.
use Rattle.std.specs.Prelude.{Option, Some}
use Rattle.std.proofs.Common.{◌≡◌, ℕ, Bool, List, sym, subst, ap}
use Rattle.seize_words.specs.OneMemory.Op.{Op, Out}
use Rattle.seize_words.specs.OneMemory.Plan.{Plan}
use Rattle.map_tables.specs.declared.node.Node.{Node}
use Rattle.papaya_raw.specs.Machine.{machine_plan}
use Rattle.papaya_raw.specs.declared.machines.machine.Machine.{Machine}
use Rattle.papaya_raw.specs.declared.machines.progress.Progress.{Progress}
use Rattle.seize_views.specs.Views.Told.{FollowsBy}
use Rattle.threads_kinds.specs.CallKinds.Shows.{ToldAreVisible}
use Rattle.threads_rule.specs.Views.Looks.{shown_in, MayFollow, TurnsTo}
use Rattle.threads_rule.specs.Views.Told.{HandsBack, MayCome, told, observed_by, turned, turned_by, called}
use Rattle.threads_rule.specs.declared.view.Map.{Map}
use Rattle.threads_rule.specs.declared.view.View.{View}
use Rattle.threads_rule.specs.declared.view.SeatWork.{SeatWork}
use Rattle.threads_rule.specs.declared.view.SeatWork.TheVariants.{Calls}

module _ {K V S : Type 0} (same : K → K → Bool) (hash : S → K → ℕ) (v : View K V S) (map : Map S) (machine : Machine K V K) (knows : v.map ≡ Some map) (works : v.work ≡ Calls machine) where
  abbrev plan : Plan (Node K V) (Machine K V K × Progress (Node K V))
  plan = machine_plan same same (hash map.hasher) machine

  -- what is told with the answer
  abbrev pub HasCome : List (ℕ × Node K V) → Out (Node K V) → View K V S → Type 0
  HasCome shown out w =
      (end : Machine K V K × Progress (Node K V)) × FollowsBy (shown_in shown) plan out end × (w ≡ called v map machine end w.looks) × MayFollow (shown_in shown) plan out
      × MayCome plan end × HandsBack v.calls end.1 × ToldAreVisible machine end.1 (shown_in shown)

  told_so : (op : Op (Node K V)) (out : Out (Node K V)) (w : View K V S) → told same hash v op out w → HasCome w.looks out w
  told_so op out w is =
      subst (λ (o : Option (Map S)). observed_by same hash v o (Calls machine) op out w) knows (subst (λ (k : SeatWork K V S). observed_by same hash v v.map k op out w) works is)

  -- it shows what the step looks at
  pub told_shown : (op : Op (Node K V)) (out : Out (Node K V)) (w : View K V S) → told same hash v op out w → HasCome w.held out w
  told_shown op out w is =
      let t = told_so op out w is in
      let shows : w.held ≡ w.looks = ap (λ (u : View K V S). u.held) t.2 in (
        t.0,
        subst (λ (l : List (ℕ × Node K V)). FollowsBy (shown_in l) plan out t.0) (sym shows) t.1,
        t.2,
        subst (λ (l : List (ℕ × Node K V)). MayFollow (shown_in l) plan out) (sym shows) t.3,
        t.4,
        t.5,
        subst (λ (l : List (ℕ × Node K V)). ToldAreVisible machine t.0.1 (shown_in l)) (sym shows) t.6,
      )

  -- and by a turn
  pub turned_so : (w : View K V S) → turned same hash v w → (end : Machine K V K × Progress (Node K V)) × TurnsTo (shown_in w.looks) plan end × (w ≡ called v map machine end w.looks)
      × MayCome plan end × HandsBack v.calls end.1 × ToldAreVisible machine end.1 (shown_in w.looks)
  turned_so w is =
      subst (λ (o : Option (Map S)). turned_by same hash v o (Calls machine) w) knows (subst (λ (k : SeatWork K V S). turned_by same hash v v.map k w) works is)
