-- A step of the end of a map, of the seat that owned it: it may be taken, and the seat knows how far it has come, and that less is left.
use Rattle.std.specs.Prelude.{◌==◌, ◌&&◌, cond, Option, Some, IsSome, if◌then◌else◌}
use Rattle.std.proofs.Common.{◌≡◌, ℕ, suc, arith, ◌≤◌, ◌<◌, Bool, true, false, List, [], ◌⊎◌, inl, refl, sym, subst, ap, ◌∙◌}
use Rattle.seize_words.specs.OneMemory.Op.{Op, Out, Found}
use Rattle.seize_words.specs.OneMemory.Plan.{Plan, Then, Turn, Do, May, Steps, Ends as EndsAt}
use Rattle.seize.specs.declared.rows.settle.Settled.{Settled}
use Rattle.seize.specs.declared.rows.settle.Settled.TheVariants as settled
use Rattle.map_tables.specs.declared.node.Node.{Node}
use Rattle.map_tables.specs.declared.setting.Setting.{Setting}
use Rattle.papaya_raw.specs.EndMap.{ending, end_map_plan, plan_at, follower_read}
use Rattle.papaya_raw.specs.declared.machines.end_map.EndMap.{EndMap}
use Rattle.papaya_raw.specs.declared.machines.end_map.Ending.{Ending}
use Rattle.papaya_raw.specs.declared.machines.end_map.Ending.TheVariants as at
use Rattle.seize_seats.specs.Seats.Errands.{TurnsUnlent}
use Rattle.seize_views.specs.Views.Promises.{op_in}
use Rattle.seize_views.specs.Views.Told.{FollowsBy}
use Rattle.seize_views.specs.declared.view.Fixed.{Fixed}
use Rattle.seize_views.specs.declared.view.SlotView.TheVariants.{Rests}
use Rattle.seize_views.proofs.Views.Makes.{IsDo}
use Rattle.threads_steps.specs.Given.ActsLefts.{is_along, IsOn, GetsOn}
use Rattle.threads_steps.specs.Given.ViewsLooks.{shown_in, MayFollow}
use Rattle.threads_steps.specs.Given.ViewsRule.{Holds, KeepsFor, Leans, side_of}
use Rattle.threads_steps.specs.Given.ViewsTold.{observed_by, ended_after}
use Rattle.threads_steps.specs.Given.ViewsDeclared.view.EndOfMap.{EndOfMap}
use Rattle.threads_steps.specs.Given.ViewsDeclared.view.Map.{Map}
use Rattle.threads_steps.specs.Given.ViewsDeclared.view.View.{View}
use Rattle.threads_steps.specs.Given.ViewsDeclared.view.SeatWork.{SeatWork}
use Rattle.threads_steps.specs.Given.ViewsDeclared.view.SeatWork.TheVariants.{Nothing}
use Rattle.threads_steps.specs.Made.{CanMake, HasMade, IsSameSeat, looked_in}
use Rattle.threads_steps.proofs.Calls.{has_alone}
use Rattle.threads_steps.proofs.Given.CallKindsPlans.{LeavesValues, leaves_values, was_made, follows_one}
use Rattle.threads_steps.proofs.Given.ViewsLaws.{endings_begin, endings_go_on}
use Rattle.threads_ends.specs.Ending.{BeginsEnding, EndedSo, GetsOnBy, HasEndedOwn, IsEnding, OwnsWith, StaysElse, along_in, is_done, left_in}
use Rattle.threads_ends.specs.declared.ending.Ender.{Ender}
use Rattle.seize_words.proofs.General.{same_some, some_is}

-- it begins where nobody leans on the seat
module _ {K V S : Type 0} (same : K → K → Bool) (hash : S → K → ℕ) (fixed : Fixed) (id : ℕ) (v : View K V S) where
  pub may_begin : (map : Map S) → v.own ≡ Some map → v.slot ≡ Rests → v.work ≡ Nothing → TurnsUnlent (Holds same hash fixed) KeepsFor Leans id v (BeginsEnding v)
  may_begin map owns rests free s h at unlent =
      let g = endings_begin V same hash fixed id v map rests free owns s h at unlent in (g.0, g.1, g.2, g.3, (map, g.4.0, owns, g.4.1))

-- and leans on whom it did
pub begun_leans : {K V S : Type 0} (v w : View K V S) (n : ℕ) {X : Type 0} → BeginsEnding v w → Leans w n → Leans v n ⊎ X
begun_leans {K} {V} {S} v w n begins leans = inl (subst (λ (x : View K V S). Leans x n) begins.3 leans)

-- whoever knows what a step looks at may take it where its operation may be made
may_from : {T R M : Type 0} (can : M → Op T → Type 0) (took : M → Op T → Out T → M → Type 0) (shown : M → ℕ → Option T) (m : M) (plan : Plan T R) → IsDo plan
    → ((op : Op T) → op_in plan ≡ Some op → can m op) → ((op : Op T) (out : Out T) (n : M) → took m op out n → MayFollow (shown n) plan out) → May can took shown m plan
may_from can took shown m (Turn rest) is may looks = absurd is
may_from can took shown m (Do op rest) is may looks = (may op refl, λ out n t. looks op out n t)

-- each step but that of an end that is over makes one operation, which replaces no value
module _ (K V : Type 0) (e : EndMap) where
  is_do : (p : Ending) → IsOn p → IsDo (plan_at {K = K} {V = V} e p)
  is_do at.Over on = on
  is_do _ on = tt

  leaves : (p : Ending) → LeavesValues (plan_at {K = K} {V = V} e p)
  leaves at.Over = tt
  leaves _ = tt

-- along a list it goes on
module _ {K V : Type 0} (e : EndMap) where
  either : (shown : ℕ → Option (Node K V)) (end : EndMap × Settled (Node K V)) (b : Bool) (x y : Then (Node K V) (EndMap × Settled (Node K V))) → (EndsAt shown x end → end.1 ≡ settled.Goes) → (EndsAt shown y end → end.1 ≡ settled.Goes)
      → EndsAt shown (if b then x else y) end → end.1 ≡ settled.Goes
  either shown end true x y one other ends = one ends
  either shown end false x y one other ends = other ends

  follower_goes : (shown : ℕ → Option (Node K V)) (pair : ℕ) (out : Out (Node K V)) (end : EndMap × Settled (Node K V)) → EndsAt shown (follower_read e pair out) end → end.1 ≡ settled.Goes
  follower_goes shown pair (Found next) end ends =
      either shown end e.owns _ _ (ap (λ (x : EndMap × Settled (Node K V)). x.1))
      (either shown end (next == 0) _ _ (ap (λ (x : EndMap × Settled (Node K V)). x.1)) (ap (λ (x : EndMap × Settled (Node K V)). x.1))) ends
  follower_goes shown pair _ end ends = ap (λ (x : EndMap × Settled (Node K V)). x.1) ends

  along_goes : (shown : ℕ → Option (Node K V)) (p : Ending) (out : Out (Node K V)) (end : EndMap × Settled (Node K V)) → is_along p ≡ true → FollowsBy shown (plan_at e p) out end
      → end.1 ≡ settled.Goes
  along_goes shown (at.Follows pair) out end is ends = follower_goes shown pair out end ends
  along_goes shown _ out end is ends = absurd (cc is)

module _ {K V S : Type 0} (same : K → K → Bool) (hash : S → K → ℕ) (c : Ender K V S) (machine : EndMap) (is : IsEnding machine c.within.seat.now.view) where
  abbrev v : View K V S
  v = c.within.seat.now.view

  abbrev plan : Plan (Node K V) (EndMap × Settled (Node K V))
  plan = end_map_plan machine

  abbrev can : Ender K V S → Op (Node K V) → Type 0
  can x op = CanMake same hash x.within op

  abbrev took : Ender K V S → Op (Node K V) → Out (Node K V) → Ender K V S → Type 0
  took x op out n = HasMade same hash x.within op out n.within

  abbrev shown : Ender K V S → ℕ → Option (Node K V)
  shown x b = looked_in x.within.seat.now.view.work x.within.seat.now.view.looks b

  makes : (op : Op (Node K V)) → op_in plan ≡ Some op → can c op
  makes op e = record {
    alone = has_alone same hash c.within op (leaves_values plan op (leaves K V machine machine.stands) e);
    may =
        endings_go_on V same hash c.within.blocks.now.words.fixed c.within.seat.now.id v is.end op is.works
        (subst (λ (x : EndMap). op_in (end_map_plan {K = K} {V = V} x) ≡ Some op) (sym is.is) e);
  }

  -- what it has looked at is shown
  shows : (w : View K V S) (end : EndOfMap) (told : Settled (Node K V)) → w ≡ ended_after v w.looks end told → (P : (ℕ → Option (Node K V)) → Type 0) → P (shown_in w.looks)
      → P (λ b. looked_in w.work w.looks b)
  shows w end settled.Goes view P p = subst (λ (k : SeatWork K V S). P (λ b. looked_in k w.looks b)) (sym (ap (λ (x : View K V S). x.work) view)) p
  shows w end settled.Waits view P p = subst (λ (k : SeatWork K V S). P (λ b. looked_in k w.looks b)) (sym (ap (λ (x : View K V S). x.work) view)) p
  shows w end (settled.Gave value) view P p = subst (λ (k : SeatWork K V S). P (λ b. looked_in k w.looks b)) (sym (ap (λ (x : View K V S). x.work) view)) p
  shows w end settled.Done view P p =
      subst (λ (k : SeatWork K V S). P (λ b. looked_in k w.looks b)) (sym (ap (λ (x : View K V S). x.work) view))
      (subst (λ (l : List (ℕ × Node K V)). P (shown_in l)) (ap (λ (x : View K V S). x.looks) view) p)

  -- what is told of it
  pub record Came (n : Ender K V S) (out : Out (Node K V)) : Type 0 where
    pub end : EndOfMap
    pub told : Settled (Node K V)
    pub follows : FollowsBy (shown n) plan out (end.machine, told)
    pub may : MayFollow (shown n) plan out
    pub view : n.within.seat.now.view ≡ ended_after v n.within.seat.now.view.looks end told
    pub less : GetsOn machine (end.machine, told) (left_in v.work, along_in v.work) (end.left, end.along)

  came : (op : Op (Node K V)) (out : Out (Node K V)) (n : Ender K V S) → took c op out n → Came n out
  came op out n made =
      let w = n.within.seat.now.view in
      let t = subst (λ (k : SeatWork K V S). observed_by same hash v v.map k op out w) is.works made.told in
      record {
        end = t.0.0;
        told = t.0.1;
        follows =
            shows w t.0.0 t.0.1 t.2 (λ (s : ℕ → Option (Node K V)). FollowsBy s plan out (t.0.0.machine, t.0.1))
            (subst (λ (x : EndMap). FollowsBy (shown_in w.looks) (end_map_plan {K = K} {V = V} x) out (t.0.0.machine, t.0.1)) is.is t.1);
        may =
            shows w t.0.0 t.0.1 t.2 (λ (s : ℕ → Option (Node K V)). MayFollow s plan out)
            (subst (λ (x : EndMap). MayFollow (shown_in w.looks) (end_map_plan {K = K} {V = V} x) out) is.is t.3);
        view = t.2;
        less =
            subst (λ (k : SeatWork K V S). GetsOn machine (t.0.0.machine, t.0.1) (left_in k, along_in k) (t.0.0.left, t.0.0.along)) (sym is.works)
            (subst (λ (x : EndMap). GetsOn x (t.0.0.machine, t.0.1) (is.end.left, is.end.along) (t.0.0.left, t.0.0.along)) is.is t.4);
      }

  pub may_step : May can took shown c plan
  may_step = may_from can took shown c plan (is_do K V machine machine.stands is.on) makes (λ op out n t. (came op out n t).may)

  -- what a step has come to
  pub record Got (w : View K V S) (end : EndMap × Settled (Node K V)) : Type 0 where
    pub told : EndedSo end.0 end.1 w
    pub left : GetsOnBy machine end.0 end.1 v w
    pub stays : StaysElse v w

  stays_so : (w : View K V S) (end : EndOfMap) (told : Settled (Node K V)) → w ≡ ended_after v w.looks end told → StaysElse v w
  stays_so w end settled.Done view = record {
    side = ap (λ (x : View K V S). side_of x) view;
    map = ap (λ (x : View K V S). x.map) view;
    by = ap (λ (x : View K V S). x.by) view;
    own = ap (λ (x : View K V S). x.own) view;
    calls = ap (λ (x : View K V S). x.calls) view;
  }
  stays_so w end _ view = record {
    side = ap (λ (x : View K V S). side_of x) view;
    map = ap (λ (x : View K V S). x.map) view;
    by = ap (λ (x : View K V S). x.by) view;
    own = ap (λ (x : View K V S). x.own) view;
    calls = ap (λ (x : View K V S). x.calls) view;
  }

  goes_so : (w : View K V S) (end : EndOfMap) (told : Settled (Node K V)) → w ≡ ended_after v w.looks end told
      → GetsOn machine (end.machine, told) (left_in v.work, along_in v.work) (end.left, end.along) → Got w (end.machine, told)
  goes_so w end settled.Goes view less = record {
    told = record { end = end; works = ap (λ (x : View K V S). x.work) view; is = refl; on = less.0 };
    left =
        subst (λ (k : SeatWork K V S). GetsOn {T = Node K V} machine (end.machine, settled.Goes) (left_in v.work, along_in v.work) (left_in k, along_in k))
        (sym (ap (λ (x : View K V S). x.work) view)) less;
    stays = stays_so w end settled.Goes view;
  }
  goes_so w end settled.Waits view less = absurd less
  goes_so w end (settled.Gave value) view less = record {
    told = record { end = end; works = ap (λ (x : View K V S). x.work) view; is = refl; on = less.0 };
    left =
        subst (λ (k : SeatWork K V S). GetsOn machine (end.machine, settled.Gave value) (left_in v.work, along_in v.work) (left_in k, along_in k))
        (sym (ap (λ (x : View K V S). x.work) view)) less;
    stays = stays_so w end (settled.Gave value) view;
  }
  goes_so w end settled.Done view less = record { told = ap (λ (x : View K V S). x.work) view; left = tt; stays = stays_so w end settled.Done view }

  pub has_stepped : (n : Ender K V S) (end : EndMap × Settled (Node K V)) → Steps took shown c plan n end
      → Got n.within.seat.now.view end × (is_along machine.stands ≡ true → end.1 ≡ settled.Goes) × IsSameSeat c.within n.within
  has_stepped n end st =
      let k = was_made can took shown c plan n end (is_do K V machine machine.stands is.on) st in
      let t = came k.0 k.1 n k.3 in
      let one : ◌≡◌ {A = EndMap × Settled (Node K V)} (t.end.machine, t.told) end = follows_one (shown n) plan k.1 (t.end.machine, t.told) end t.follows k.4 in (
        subst (λ (x : EndMap × Settled (Node K V)). Got n.within.seat.now.view x) one (goes_so n.within.seat.now.view t.end t.told t.view t.less),
        λ along. along_goes machine (shown n) machine.stands k.1 end along k.4,
        k.3.seat,
      )

-- what stays in one course stays in both
pub stays_on : {K V S : Type 0} (u v w : View K V S) → StaysElse u v → StaysElse v w → StaysElse u w
stays_on u v w one other = record {
  side = other.side ∙ one.side;
  map = other.map ∙ one.map;
  by = other.by ∙ one.by;
  own = other.own ∙ one.own;
  calls = other.calls ∙ one.calls;
}

pub stays_there : {K V S : Type 0} (v : View K V S) → StaysElse v v
stays_there v = record { side = refl; map = refl; by = refl; own = refl; calls = refl }

-- where a step does not tell that all is over, it goes on, and less is left
module _ {K V S : Type 0} where
  pub ends_still : (machine : EndMap) (told : Settled (Node K V)) (w : View K V S) → EndedSo machine told w → is_done told ≡ false → IsEnding machine w
  ends_still machine settled.Goes w is goes = is
  ends_still machine settled.Waits w is goes = absurd is
  ends_still machine (settled.Gave value) w is goes = is
  ends_still machine settled.Done w is goes = absurd (cc goes)

  pub is_free : (machine : EndMap) (told : Settled (Node K V)) (w : View K V S) → EndedSo machine told w → is_done told ≡ true → w.work ≡ Nothing
  is_free machine settled.Done w is over = is
  is_free machine settled.Goes w is over = absurd (cc over)
  is_free machine settled.Waits w is over = absurd is
  is_free machine (settled.Gave value) w is over = absurd (cc over)

  -- at no list
  pub less_left : (c d : EndMap) (told : Settled (Node K V)) (v w : View K V S) → is_along c.stands ≡ false → EndedSo d told w → GetsOnBy c d told v w → is_done told ≡ false
      → left_in w.work < left_in v.work
  less_left c d settled.Goes v w off is less goes =
      subst (λ (b : Bool). cond (b && is_along d.stands) ((left_in w.work ≡ left_in v.work) × (along_in w.work < along_in v.work)) (left_in w.work < left_in v.work)) off less.1
  less_left c d settled.Waits v w off is less goes = absurd is
  less_left c d (settled.Gave value) v w off is less goes = less.1
  less_left c d settled.Done v w off is less goes = absurd (cc goes)

  -- and along one, of which less is left
  abbrev Along : (b : Bool) → View K V S → View K V S → Type 0
  Along b v w = cond b ((left_in w.work ≡ left_in v.work) × (along_in w.work < along_in v.work)) (left_in w.work < left_in v.work)

  pub along_less : (c d : EndMap) (told : Settled (Node K V)) (v w : View K V S) → is_along c.stands ≡ true → told ≡ settled.Goes → GetsOnBy c d told v w
      → (left_in w.work ≤ left_in v.work)
      × ((if is_along d.stands then suc (along_in w.work) else 0) < (if is_along c.stands then suc (along_in v.work) else 0))
  along_less c d told v w on goes less =
      subst (λ (b : Bool). (left_in w.work ≤ left_in v.work) × ((if is_along d.stands then suc (along_in w.work) else 0) < (if b then suc (along_in v.work) else 0))) (sym on)
      (by (is_along d.stands) (subst (λ (b : Bool). Along (b && is_along d.stands) v w) on (subst (λ (t : Settled (Node K V)). GetsOnBy c d t v w) goes less).1))
    where
      by : (b : Bool) → Along b v w → (left_in w.work ≤ left_in v.work) × ((if b then suc (along_in w.work) else 0) < suc (along_in v.work))
      by true is = let same_left = is.0 in let fewer = is.1 in (omega (arith, same_left), omega (arith, fewer))
      by false is = (omega (arith, is), omega arith)

-- the end as a whole, from where it began
module _ {K V S : Type 0} where
  -- who owns one of this setting owns one
  pub owns_one : (setting : Setting) (v : View K V S) → OwnsWith setting v → IsSome v.own
  owns_one setting v owns = some_is v.own owns.0 owns.1

  -- it begins by this machine
  pub begun_by : (setting : Setting) (v w : View K V S) → OwnsWith setting v → BeginsEnding v w → IsEnding (ending setting false) w
  begun_by setting v w owns begins =
      let one : owns.0 ≡ begins.0 = same_some owns.0 begins.0 (sym owns.1 ∙ begins.2) in
      record {
        end = record { machine = ending begins.0.setting false; left = begins.1; along = 0 };
        works = ap (λ (x : View K V S). x.work) begins.3;
        is = ap (λ (x : Setting). ending x false) (ap (λ (m : Map S). m.setting) (sym one) ∙ owns.2);
        on = tt;
      }

  pub over_then : (u v w : View K V S) → BeginsEnding u v → StaysElse v w → w.work ≡ Nothing → HasEndedOwn u w
  over_then u v w begins stays free = record {
    free = free;
    gone = stays.own ∙ ap (λ (x : View K V S). x.own) begins.3;
    side = stays.side ∙ ap (λ (x : View K V S). side_of x) begins.3;
    map = stays.map ∙ ap (λ (x : View K V S). x.map) begins.3;
    by = stays.by ∙ ap (λ (x : View K V S). x.by) begins.3;
    calls = stays.calls ∙ ap (λ (x : View K V S). x.calls) begins.3;
  }
