-- A step of a call of a seat: it may be taken, and the seat knows to what it has come.
use Rattle.std.specs.Prelude.{Option, Some}
use Rattle.std.proofs.Common.{◌≡◌, ℕ, Bool, true, false, ◌⊎◌, List, inl, inr, refl, sym, subst, ap, ◌∙◌}
use Rattle.seize_words.specs.OneMemory.Op.{Op, Out}
use Rattle.seize_words.specs.OneMemory.Plan.{Plan, Then, Turn, Do, Now, Seeing, Sure, Ends, MaySee, May, Steps}
use Rattle.seize_blocks.specs.Given.SeizeSeatsState.{Turns}
use Rattle.seize_views.specs.Views.Promises.{op_in}
use Rattle.seize_views.specs.Views.Told.{FollowsBy}
use Rattle.map_tables.specs.declared.node.Node.{Node}
use Rattle.papaya_raw.specs.Machine.{machine_plan}
use Rattle.papaya_raw.specs.declared.machines.machine.Machine.{Machine}
use Rattle.papaya_raw.specs.declared.machines.progress.Progress.{Progress}
use Rattle.seize_views.proofs.Views.Looks.{IsNow, ends_same, now_ends}
use Rattle.threads_rule.specs.Views.Looks.{shown_in, MayFollow, TurnsTo}
use Rattle.threads_rule.specs.Views.Rule.{stand_of, Holds, KeepsFor}
use Rattle.threads_rule.specs.Views.Told.{HandsBack, MayCome, called, turned}
use Rattle.threads_rule.specs.declared.view.View.{View}
use Rattle.threads_rule.proofs.Views.Laws.{calls_turn}
use Rattle.seize_callers.specs.Kept.{kept}
use Rattle.threads_steps.specs.Steps.{HasStepped}
use Rattle.threads_steps.specs.Made.{CanMake, HasMade, IsSameSeat, shown_of}
use Rattle.threads_rule.specs.Errands.Calling.{MayStep, StepsTo}
use Rattle.threads_kinds.specs.CallKinds.Leads.{Leads}
use Rattle.threads_kinds.specs.CallKinds.Shows.{ToldAreVisible}
use Rattle.threads_steps.specs.declared.within.Within.{Within}
use Rattle.threads_steps.proofs.Calls.{can_make, told_shown}
use Rattle.threads_steps.proofs.Tellings.{turned_so}
use Rattle.threads_rule.proofs.Errands.Machines.{quiet_machine}
use Rattle.threads_kinds.proofs.CallKinds.Plans.{IsAnsweredBy, LeavesValues, answered_by, follows_one}
use Rattle.threads_kinds.proofs.CallKinds.Quiet.{IsQuiet}

module _ {T R : Type 0} where
  pub quiet_leaves : (plan : Plan T R) → IsQuiet plan → LeavesValues plan
  quiet_leaves (Turn rest) is = tt
  quiet_leaves (Do op rest) is = is

  -- what looks at nothing may be looked at
  sees_none : (shown : ℕ → Option T) (rest : Then T R) → IsNow rest → MaySee shown rest
  sees_none shown (Now r) is = tt
  sees_none shown (Seeing block rest) is = absurd is
  sees_none shown (Sure fact rest) is = absurd is

  pub leads_by : (shown : ℕ → Option T) (plan : Plan T R) (out : Out T) (end : R) → IsAnsweredBy plan out → FollowsBy shown plan out end → Leads shown plan end
  leads_by shown (Turn rest) out end fits f = absurd f
  leads_by shown (Do op rest) out end fits f = (out, fits, f)

  module _ {M : Type 0} (can : M → Op T → Type 0) (took : M → Op T → Out T → M → Type 0) (shown : M → ℕ → Option T) (m : M) where
    pub may_quiet : (plan : Plan T R) → IsQuiet plan → ((op : Op T) → op_in plan ≡ Some op → can m op)
        → ((op : Op T) (out : Out T) (n : M) → op_in plan ≡ Some op → took m op out n → MayFollow (shown n) plan out) → May can took shown m plan
    may_quiet (Turn rest) is may tells = sees_none (shown m) rest is
    may_quiet (Do op rest) is may tells = (may op refl, λ out n t. tells op out n refl t)

    -- a step has made its operation, or makes none
    abbrev pub MadeOne : Plan T R → M → R → Type 0
    MadeOne plan n end = (op : Op T) × (out : Out T) × took m op out n × FollowsBy (shown n) plan out end × (op_in plan ≡ Some op)

    abbrev pub MadeNone : Plan T R → M → R → Type 0
    MadeNone plan n end = (n ≡ m) × ((rest : Then T R) × (plan ≡ Turn rest) × Ends (shown m) rest end)

    pub came_to : (plan : Plan T R) (n : M) (end : R) → Steps took shown m plan n end → MadeOne plan n end ⊎ MadeNone plan n end
    came_to (Turn rest) n end st = inr (st.0, (rest, refl, subst (λ (x : M). Ends (shown x) rest end) st.0 st.1))
    came_to (Do op rest) n end st = inl (op, st.0, st.1, st.2, refl)

module _ {K V S : Type 0} (same : K → K → Bool) (hash : S → K → ℕ) (hasher : S) (c : Within K V S) (machine : Machine K V K) (is : MayStep hasher machine c.seat.now.view) where
  abbrev plan : Plan (Node K V) (Machine K V K × Progress (Node K V))
  plan = machine_plan same same (hash is.at.map.hasher) machine

  abbrev its : Plan (Node K V) (Machine K V K × Progress (Node K V))
  its = machine_plan same same (hash hasher) machine

  quiet : IsQuiet plan
  quiet = quiet_machine same (hash is.at.map.hasher) machine is.steady

  may : May (CanMake same hash) (HasMade same hash) shown_of c plan
  may =
      may_quiet (CanMake same hash) (HasMade same hash) shown_of c plan quiet (can_make same hash c is.at.map machine is.at.knows is.at.works (quiet_leaves plan quiet))
      (λ op out n e made. (told_shown same hash c is.at.map machine is.at.knows is.at.works op out n made).3)

  pub may_step : May (CanMake same hash) (HasMade same hash) shown_of c its
  may_step = subst (λ (h : S). May (CanMake same hash) (HasMade same hash) shown_of c (machine_plan same same (hash h) machine)) is.at.hashes may

  -- what is known once the call has come so far
  knows_so : (w : View K V S) (next : Machine K V K) (told : Progress (Node K V)) (looks : List (ℕ × Node K V))
      → w ≡ called c.seat.now.view is.at.map machine (next, told) looks → Leads (shown_in w.held) plan (next, told) → MayCome plan (next, told) → HandsBack c.seat.now.view.calls told
      → ToldAreVisible machine told (shown_in w.held) → StepsTo same hash hasher machine next told c.seat.now.view w
  knows_so w next told looks view leads came hands shows = record {
    work = ap (λ (u : View K V S). u.work) view;
    stays = record { slot = ap (λ (u : View K V S). stand_of u) view; map = ap (λ (u : View K V S). u.map) view };
    calls = ap (λ (u : View K V S). u.calls) view;
    leads = subst (λ (h : S). Leads (shown_in w.held) (machine_plan {K = K} {V = V} same same (hash h) machine) (next, told)) is.at.hashes leads;
    came = subst (λ (h : S). MayCome (machine_plan {K = K} {V = V} same same (hash h) machine) (next, told)) is.at.hashes came;
    hands = hands;
    shows = shows;
  }

  module _ (n : Within K V S) (next : Machine K V K) (told : Progress (Node K V)) (before : c.made ≡ false) (st : Steps (HasMade same hash) shown_of c its n (next, told)) where
    abbrev end : Machine K V K × Progress (Node K V)
    end = (next, told)

    steps : Steps (HasMade same hash) shown_of c plan n end
    steps = subst (λ (h : S). Steps (HasMade same hash) shown_of c (machine_plan same same (hash h) machine) n end) (sym is.at.hashes) st

    -- where an operation was made, it is known what it told
    pub record Made : Type 0 where
      pub stepped : StepsTo same hash hasher machine next told c.seat.now.view n.seat.now.view
      pub by : HasStepped same hash c.seat.now.view n.seat.now.view
      pub seat : IsSameSeat c n

    pub has_made : n.made ≡ true → Made
    has_made made = elim (came_to (CanMake same hash) (HasMade same hash) shown_of c plan n end steps) as (λ _. Made) [
      | inl it ↦
          let t = told_shown same hash c is.at.map machine is.at.knows is.at.works it.0 it.1 n it.2 in
          let one : t.0 ≡ end = follows_one (shown_of n) plan it.1 t.0 end t.1 it.3 in
          let view = t.2 ∙ ap (λ (e : Machine K V K × Progress (Node K V)). called c.seat.now.view is.at.map machine e n.seat.now.view.looks) one in record {
            stepped =
                knows_so n.seat.now.view next told n.seat.now.view.looks view (leads_by (shown_of n) plan it.1 end (answered_by plan it.0 it.1 it.4 it.2.fits) it.3)
                (subst (λ (e : Machine K V K × Progress (Node K V)). MayCome plan e) one t.4)
                (subst (λ (e : Machine K V K × Progress (Node K V)). HandsBack c.seat.now.view.calls e.1) one t.5)
                (subst (λ (e : Machine K V K × Progress (Node K V)). ToldAreVisible machine e.1 (shown_of n)) one t.6);
            by = inl (it.0, it.1, it.2.told);
            seat = it.2.seat;
          }
      | inr none ↦ let made_false : n.made ≡ false = ap (λ (x : Within K V S). x.made) none.0 ∙ before in absurd (cc (made, made_false))
    ]

    -- where none was made, nothing has changed, and the seat may take the step
    abbrev pub IsTurn : Type 0
    IsTurn = (n ≡ c) × ((rest : Then (Node K V) (Machine K V K × Progress (Node K V))) × (plan ≡ Turn rest) × Ends (shown_of c) rest end)

    pub is_turn : n.made ≡ false → IsTurn
    is_turn none = elim (came_to (CanMake same hash) (HasMade same hash) shown_of c plan n end steps) as (λ _. IsTurn) [
      | inl it ↦ let made : n.made ≡ true = it.2.made in absurd (cc (made, none))
      | inr turn ↦ turn
    ]

    -- it is the same seat then
    pub still : n.made ≡ false → IsSameSeat c n
    still none = ap (λ (x : Within K V S). kept x.blocks x.seat.ghost_name x.seat.now.id x.seat.now.away) (is_turn none).0

    pub turned_by_it : n.made ≡ false → (w : View K V S) → turned same hash n.seat.now.view w → HasStepped same hash c.seat.now.view w
    turned_by_it none w goes = inr (subst (λ (x : Within K V S). turned same hash x.seat.now.view w) (is_turn none).0 goes)

    pub may_turn : n.made ≡ false → Turns (Holds same hash n.blocks.now.words.fixed) KeepsFor n.seat.now.id n.seat.now.view (turned same hash n.seat.now.view)
    may_turn none =
        let t = is_turn none in
        subst (λ (x : Within K V S). Turns (Holds same hash x.blocks.now.words.fixed) KeepsFor x.seat.now.id x.seat.now.view (turned same hash x.seat.now.view)) (sym t.0)
        (calls_turn V same hash c.blocks.now.words.fixed c.seat.now.id c.seat.now.view is.at.map machine t.1.0 is.at.knows is.at.works t.1.1)

    pub has_turned : n.made ≡ false → (w : View K V S) → turned same hash n.seat.now.view w → StepsTo same hash hasher machine next told c.seat.now.view w
    has_turned none w goes =
        let t = is_turn none in
        let here : turned same hash c.seat.now.view w = subst (λ (x : Within K V S). turned same hash x.seat.now.view w) t.0 goes in
        let by_map = turned_so same hash c.seat.now.view is.at.map machine is.at.knows is.at.works w here in
        let now : IsNow t.1.0 = subst (λ (p : Plan (Node K V) (Machine K V K × Progress (Node K V))). IsQuiet p) t.1.1 quiet in
        let ends = subst (λ (p : Plan (Node K V) (Machine K V K × Progress (Node K V))). TurnsTo (shown_in w.looks) p by_map.0) t.1.1 by_map.1 in
        let one : by_map.0 ≡ end =
        ends_same (shown_of c) t.1.0 by_map.0 end (now_ends (shown_in w.looks) (shown_of c) t.1.0 by_map.0 now ends) t.1.2 in
        let view = by_map.2 ∙ ap (λ (e : Machine K V K × Progress (Node K V)). called c.seat.now.view is.at.map machine e w.looks) one in
        let held_is : w.held ≡ w.looks = ap (λ (u : View K V S). u.held) view in
        knows_so w next told w.looks view
        (subst (λ (p : Plan (Node K V) (Machine K V K × Progress (Node K V))). Leads (shown_in w.held) p end) (sym t.1.1)
        (now_ends (shown_of c) (shown_in w.held) t.1.0 end now t.1.2))
        (subst (λ (e : Machine K V K × Progress (Node K V)). MayCome plan e) one by_map.3)
        (subst (λ (e : Machine K V K × Progress (Node K V)). HandsBack c.seat.now.view.calls e.1) one by_map.4)
        (subst (λ (e : Machine K V K × Progress (Node K V)). ToldAreVisible machine e.1 (shown_in w.held)) one
        (subst (λ (l : List (ℕ × Node K V)). ToldAreVisible machine by_map.0.1 (shown_in l)) (sym held_is) by_map.5))
