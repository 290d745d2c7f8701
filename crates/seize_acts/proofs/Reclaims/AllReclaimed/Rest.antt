-- Reclaiming everything can be run on to its end, wherever it stands.
use Rattle.std.specs.Prelude.{Option, Some, map}
use Rattle.std.proofs.Common.{◌≡◌, ℕ, zero, suc, ◌<◌, ◌≤◌, Bool, true, false, List, [], ◌∷◌, ◌++◌, ◌⊎◌, inl, inr, refl, arith, ap, sym, subst, ◌∙◌}
use Rattle.std.proofs.lemmas.List.{append-nil, append_assoc, map-append}
use Rattle.seize_words.specs.OneMemory.Mem.{Mem, Took, value_at}
use Rattle.seize_words.specs.OneMemory.Plan.{Steps}
use Rattle.seize.specs.declared.rows.settle.Settle.{Settle}
use Rattle.seize.specs.declared.rows.settle.Settled.{Settled}
use Rattle.seize.specs.declared.rows.settle.Settled.TheVariants.{Goes, Waits, Gave, Done}
use Rattle.seize.specs.declared.rows.leave.Leave.{Leave}
use Rattle.seize.specs.declared.rows.reclaim_all.ReclaimAll.{ReclaimAll}
use Rattle.seize.specs.declared.rows.reclaim_all.Reclaiming.{Reclaiming}
use Rattle.seize.specs.declared.rows.reclaim_all.Reclaiming.TheVariants as at
use Rattle.seize.specs.Leave.{leave_plan}
use Rattle.seize.specs.Settle.{settle_plan}
use Rattle.seize.specs.ReclaimAll.{standing, next_head, next_batch, within, plan_at, reclaim_all_plan}
use Rattle.seize.specs.World.{Flush, Settles}
use Rattle.seize_model.specs.Alone.Alone.{History, IsMidway, AreValues, blocks_in, given_back}
use Rattle.seize_acts.specs.Reclaims.AllReclaimed.{IsReclaiming, IsAllReclaimed, all, is_within, is_flushing}
use Rattle.seize_acts.specs.Reclaims.Roots.{all_lists}
use Rattle.seize_model.proofs.Given.SeizeRuleRows.LeavesTold.{leave_quiet}
use Rattle.seize_model.proofs.Given.SeizeRuleWords.Kept.{IsQuietPlan, quiet_as, settle_quiet}
use Rattle.seize_acts.proofs.Reclaims.AllReclaimed.Points.{values_then}
use Rattle.seize_acts.proofs.Reclaims.AllReclaimed.Traces.{is_point, reclaim_may, reclaim_still, reclaim_gave, reclaim_done, flush_begun, flush_still}
use Rattle.seize_acts.proofs.Reclaims.AllReclaimed.Weights.{row_to_go, point_lower, row_less, row_falls, row_not_done, weight}
use Rattle.seize_model.proofs.Alone.Whole.Rest.{steps_on}

module _ {T : Type 0} (defers : T → Option ℕ) (left_over : T → Bool) (batch_size roots : ℕ) (m : Mem T) (h : History) (lists : ℕ → List ℕ) where
  abbrev Mid : ReclaimAll → Mem T → List T → Type 0
  Mid c m2 given = IsReclaiming defers left_over batch_size roots m h lists c m2 given

  -- it ends with these values, and more behind them
  abbrev EndsWith : List T → Type 0
  EndsWith given = (more : List T) × (m3 : Mem T) × IsAllReclaimed defers left_over batch_size roots m h lists m3 (given ++ more)

  one_more : (given : List T) (value : T) → EndsWith (given ++ value ∷ []) → EndsWith given
  one_more given value e =
      (value ∷ e.0, e.1, subst (λ (l : List T). IsAllReclaimed defers left_over batch_size roots m h lists e.1 l) (append_assoc given (value ∷ []) e.0) e.2)

  quiet_at : (c : ReclaimAll) (m2 : Mem T) (p : Reclaiming) → IsQuietPlan (plan_at defers left_over c p)
  quiet_at c m2 (at.Heads s) = tt
  quiet_at c m2 (at.Retakes s) = tt
  quiet_at c m2 (at.Leaves s l) = quiet_as (within (λ (k : Leave). standing c (at.Leaves s k)) (next_head c s)) (leave_plan defers l) (leave_quiet defers m2 m2 l (l, Done) l.stands)
  quiet_at c m2 (at.Batches s) = tt
  quiet_at c m2 (at.Flushes s d) = quiet_as (within (λ (k : Settle). standing c (at.Flushes s k)) (next_batch (record c { again = true }) s)) (settle_plan defers d) (settle_quiet defers d d.stands)
  quiet_at c m2 (at.Frees s) = tt
  quiet_at c m2 (at.Roots root) = tt
  quiet_at c m2 (at.Nexts root block) = tt
  quiet_at c m2 (at.Takes root block next) = tt
  quiet_at c m2 (at.Empties root) = tt
  quiet_at c m2 (at.Unuses root) = tt
  quiet_at c m2 at.Over = tt

  -- it takes a step
  record Stepped (c : ReclaimAll) (m2 : Mem T) : Type 0 where
    m3 : Mem T
    c3 : ReclaimAll
    told : Settled T
    step : Steps Took value_at m2 (reclaim_all_plan defers left_over c) m3 (c3, told)

  steps : (c : ReclaimAll) (m2 : Mem T) (given : List T) → Mid c m2 given → Stepped c m2
  steps c m2 given mid =
      let s = steps_on m2 (reclaim_all_plan defers left_over c) (quiet_at c m2 c.stands) (reclaim_may defers left_over batch_size roots m h lists c m2 given mid) in
      record { m3 = s.0; c3 = s.1.0; told = s.1.1; step = s.2 }

  -- a row reclaims a value, or has ended
  record Gives (m2 : Mem T) (given : List T) : Type 0 where
    m3 : Mem T
    c3 : ReclaimAll
    value : T
    mid : Mid c3 m3 (given ++ value ∷ [])
    fewer : blocks_in m3 < blocks_in m2

  record Rests (c : ReclaimAll) (m2 : Mem T) (given : List T) : Type 0 where
    m3 : Mem T
    c3 : ReclaimAll
    mid : Mid c3 m3 given
    outside : is_within c3.stands ≡ false
    no_more : blocks_in m3 ≤ blocks_in m2
    less : is_flushing c.stands ≡ false → weight c3 ≤ weight c

  fewer_yet : (m2 m3 : Mem T) (given : List T) → blocks_in m3 ≤ blocks_in m2 → Gives m3 given → Gives m2 given
  fewer_yet m2 m3 given le g = record { m3 = g.m3; c3 = g.c3; value = g.value; mid = g.mid; fewer = let f = g.fewer in omega (arith, f, le) }

  none_less : (a : ℕ) → a < zero → ⊥
  none_less a l = omega (arith, l)

  less_by : (a b k : ℕ) → a < b → b < suc k → a < k
  less_by a b k x y = omega (arith, x, y)

  row_out : (k : ℕ) (c : ReclaimAll) (m2 : Mem T) (given : List T) → Mid c m2 given → row_to_go defers m2 c.stands < k → Gives m2 given ⊎ Rests c m2 given
  row_out zero c m2 given mid less = absurd (none_less (row_to_go defers m2 c.stands) less)
  row_out (suc k) c m2 given mid less = by (is_within c.stands) refl (λ c m2 given mid less. row_out k c m2 given mid less)
    where
      s : Stepped c m2
      s = steps c m2 given mid

      went : (s.told ≡ Goes) ⊎ (s.told ≡ Waits) → is_within c.stands ≡ true → Gives s.m3 given ⊎ Rests s.c3 s.m3 given → Gives m2 given ⊎ Rests c m2 given
      went e o (inl g) = inl (fewer_yet m2 s.m3 given (reclaim_still defers left_over batch_size roots m h lists c m2 given mid s.m3 s.c3 s.told s.step e).1 g)
      went e o (inr r) = inr (record {
        m3 = r.m3;
        c3 = r.c3;
        mid = r.mid;
        outside = r.outside;
        no_more = let a = r.no_more in let b = (reclaim_still defers left_over batch_size roots m h lists c m2 given mid s.m3 s.c3 s.told s.step e).1 in omega (arith, a, b);
        less = λ f.
            let one = row_less defers left_over batch_size roots m h lists c m2 given s.m3 (s.c3, s.told) (is_point defers left_over batch_size roots m h lists c m2 given mid) o f s.step in
            let a = one.0 in
            let b = r.less one.1 in
            omega (arith, a, b);
      })

      by : (o : Bool) → is_within c.stands ≡ o
          → ((c : ReclaimAll) (m2 : Mem T) (given : List T) → Mid c m2 given → row_to_go defers m2 c.stands < k → Gives m2 given ⊎ Rests c m2 given) → Gives m2 given ⊎ Rests c m2 given
      by false o further = inr (record { m3 = m2; c3 = c; mid = mid; outside = o; no_more = omega arith; less = λ f. omega arith })
      by true o further = told s.told refl
        where
          on : (s.told ≡ Goes) ⊎ (s.told ≡ Waits) → Gives m2 given ⊎ Rests c m2 given
          on e =
              let f = row_falls defers left_over batch_size roots m h lists c m2 given s.m3 (s.c3, s.told) (is_point defers left_over batch_size roots m h lists c m2 given mid) o s.step e in
              went e o
              (further s.c3 s.m3 given (reclaim_still defers left_over batch_size roots m h lists c m2 given mid s.m3 s.c3 s.told s.step e).0
              (less_by (row_to_go defers s.m3 s.c3.stands) (row_to_go defers m2 c.stands) k f less))

          told : (p : Settled T) → s.told ≡ p → Gives m2 given ⊎ Rests c m2 given
          told Goes e = on (inl e)
          told Waits e = on (inr e)
          told (Gave value) e =
              let g = reclaim_gave defers left_over batch_size roots m h lists c m2 given mid s.m3 s.c3 s.told s.step value e in
              inl (record { m3 = s.m3; c3 = s.c3; value = value; mid = g.0; fewer = g.1 })
          told Done e = absurd (row_not_done defers left_over batch_size roots m h lists c m2 given s.m3 (s.c3, s.told) o s.step e)

  -- a flush that has reclaimed nothing yet reclaims a value
  record Fresh (c : ReclaimAll) (m2 : Mem T) : Type 0 where
    m1 : Mem T
    h1 : History
    slot : ℕ
    settle : Settle
    stands : c.stands ≡ at.Flushes slot settle
    midway : IsMidway defers batch_size roots m1 h1 (Flush slot) (Settles settle) m2 []
    some : given_back batch_size (Flush slot) h1 ≡ [] → ⊥

  fresh_gives : (k : ℕ) (c : ReclaimAll) (m2 : Mem T) (given : List T) → Mid c m2 given → Fresh c m2 → row_to_go defers m2 c.stands < k → Gives m2 given
  fresh_gives zero c m2 given mid fresh less = absurd (none_less (row_to_go defers m2 c.stands) less)
  fresh_gives (suc k) c m2 given mid fresh less = told s.told refl (λ c m2 given mid fresh less. fresh_gives k c m2 given mid fresh less)
    where
      s : Stepped c m2
      s = steps c m2 given mid

      inside : is_within c.stands ≡ true
      inside = ap is_within fresh.stands

      fresh_still : (s.told ≡ Goes) ⊎ (s.told ≡ Waits) → Fresh s.c3 s.m3
      fresh_still e =
          let k = flush_still defers left_over batch_size roots fresh.m1 fresh.h1 c fresh.slot fresh.settle fresh.stands m2 fresh.midway fresh.some s.m3 s.c3 s.told s.step e in
          record { m1 = fresh.m1; h1 = fresh.h1; slot = fresh.slot; settle = k.0; stands = k.1; midway = k.2; some = fresh.some }

      on : (s.told ≡ Goes) ⊎ (s.told ≡ Waits)
          → ((c : ReclaimAll) (m2 : Mem T) (given : List T) → Mid c m2 given → Fresh c m2 → row_to_go defers m2 c.stands < k → Gives m2 given) → Gives m2 given
      on e further =
          let f = row_falls defers left_over batch_size roots m h lists c m2 given s.m3 (s.c3, s.told) (is_point defers left_over batch_size roots m h lists c m2 given mid) inside s.step e in
          let g = reclaim_still defers left_over batch_size roots m h lists c m2 given mid s.m3 s.c3 s.told s.step e in
          fewer_yet m2 s.m3 given g.1 (further s.c3 s.m3 given g.0 (fresh_still e) (less_by (row_to_go defers s.m3 s.c3.stands) (row_to_go defers m2 c.stands) k f less))

      told : (p : Settled T) → s.told ≡ p
          → ((c : ReclaimAll) (m2 : Mem T) (given : List T) → Mid c m2 given → Fresh c m2 → row_to_go defers m2 c.stands < k → Gives m2 given) → Gives m2 given
      told Goes e further = on (inl e) further
      told Waits e further = on (inr e) further
      told (Gave value) e further =
          let g = reclaim_gave defers left_over batch_size roots m h lists c m2 given mid s.m3 s.c3 s.told s.step value e in
          record { m3 = s.m3; c3 = s.c3; value = value; mid = g.0; fewer = g.1 }
      told Done e further = absurd (row_not_done defers left_over batch_size roots m h lists c m2 given s.m3 (s.c3, s.told) inside s.step e)

  -- it ends, where it ends with fewer blocks
  abbrev EndsBelow : ℕ → Type 0
  EndsBelow k = (c : ReclaimAll) (m2 : Mem T) (given : List T) → Mid c m2 given → blocks_in m2 < k → EndsWith given

  after_gives : (k : ℕ) → EndsBelow k → (m2 : Mem T) (given : List T) → blocks_in m2 < suc k → Gives m2 given → EndsWith given
  after_gives k below m2 given few g = one_more given g.value (below g.c3 g.m3 (given ++ g.value ∷ []) g.mid (less_by (blocks_in g.m3) (blocks_in m2) k g.fewer few))

  at_rest_ends : (k : ℕ) → EndsBelow k → (j : ℕ) (c : ReclaimAll) (m2 : Mem T) (given : List T) → Mid c m2 given → is_within c.stands ≡ false → blocks_in m2 < suc k → weight c < j → EndsWith given
  at_rest_ends k below zero c m2 given mid o few less = absurd (none_less (weight c) less)
  at_rest_ends k below (suc j) c m2 given mid o few less = told s.told refl (λ c m2 given mid o few less. at_rest_ends k below j c m2 given mid o few less)
    where
      s : Stepped c m2
      s = steps c m2 given mid

      on : (s.told ≡ Goes) ⊎ (s.told ≡ Waits)
          → ((c : ReclaimAll) (m2 : Mem T) (given : List T) → Mid c m2 given → is_within c.stands ≡ false → blocks_in m2 < suc k → weight c < j → EndsWith given) → EndsWith given
      on e further = by (is_flushing s.c3.stands) refl
        where
          g : Mid s.c3 s.m3 given × (blocks_in s.m3 ≤ blocks_in m2)
          g = reclaim_still defers left_over batch_size roots m h lists c m2 given mid s.m3 s.c3 s.told s.step e

          lower : weight s.c3 < weight c
          lower = point_lower defers left_over batch_size roots m h lists c m2 given s.m3 (s.c3, s.told) (is_point defers left_over batch_size roots m h lists c m2 given mid) o s.step e

          few3 : blocks_in s.m3 < suc k
          few3 = let l = g.1 in omega (arith, l, few)

          out : is_flushing s.c3.stands ≡ false → Gives s.m3 given ⊎ Rests s.c3 s.m3 given → EndsWith given
          out f (inl x) = after_gives k below s.m3 given few3 x
          out f (inr r) =
              further r.c3 r.m3 given r.mid r.outside (let a = r.no_more in let b = few3 in omega (arith, a, b)) (let a = r.less f in let b = lower in omega (arith, a, b, less))

          by : (f : Bool) → is_flushing s.c3.stands ≡ f → EndsWith given
          by false f = out f (row_out (suc (row_to_go defers s.m3 s.c3.stands)) s.c3 s.m3 given g.0 (omega arith))
          by true f =
              let b = flush_begun defers left_over batch_size roots m h lists c m2 given mid s.m3 s.c3 s.told s.step o e f in
              after_gives k below s.m3 given few3
              (fresh_gives (suc (row_to_go defers s.m3 s.c3.stands)) s.c3 s.m3 given g.0
              (record { m1 = s.m3; h1 = b.ended; slot = b.slot; settle = b.settle; stands = b.stands; midway = b.midway; some = b.some }) (omega arith))

      told : (p : Settled T) → s.told ≡ p
          → ((c : ReclaimAll) (m2 : Mem T) (given : List T) → Mid c m2 given → is_within c.stands ≡ false → blocks_in m2 < suc k → weight c < j → EndsWith given) → EndsWith given
      told Goes e further = on (inl e) further
      told Waits e further = on (inr e) further
      told (Gave value) e further =
          let g = reclaim_gave defers left_over batch_size roots m h lists c m2 given mid s.m3 s.c3 s.told s.step value e in
          after_gives k below m2 given few (record { m3 = s.m3; c3 = s.c3; value = value; mid = g.0; fewer = g.1 })
      told Done e further = (
        [],
        s.m3,
        subst (λ (l : List T). IsAllReclaimed defers left_over batch_size roots m h lists s.m3 l) (sym (append-nil given))
            (reclaim_done defers left_over batch_size roots m h lists c m2 given mid s.m3 s.c3 s.told s.step e),
      )

  ends_below : (k : ℕ) → EndsBelow k
  ends_below zero c m2 given mid few = absurd (none_less (blocks_in m2) few)
  ends_below (suc k) c m2 given mid few = by (row_out (suc (row_to_go defers m2 c.stands)) c m2 given mid (omega arith)) (λ c m2 given mid few. ends_below k c m2 given mid few)
    where
      by : Gives m2 given ⊎ Rests c m2 given → EndsBelow k → EndsWith given
      by (inl g) below = after_gives k below m2 given few g
      by (inr r) below = at_rest_ends k below (suc (weight r.c3)) r.c3 r.m3 given r.mid r.outside (let a = r.no_more in omega (arith, a, few)) (omega arith)

  pub ends_with_all : (c : ReclaimAll) (m2 : Mem T) (given : List T) → Mid c m2 given → EndsWith given
  ends_with_all c m2 given mid = ends_below (suc (blocks_in m2)) c m2 given mid (omega arith)

  -- the values are those of the blocks that the sets give back, and then of those behind the roots
  pub values_of_all : (m3 : Mem T) (given : List T) → IsAllReclaimed defers left_over batch_size roots m h lists m3 given
      → AreValues defers batch_size roots m ((all defers left_over batch_size roots m h).reclaimed ++ all_lists lists roots) given
  values_of_all m3 given e =
      map-append (value_at m) (all defers left_over batch_size roots m h).reclaimed (all_lists lists roots)
      ∙ ap (λ (l : List (Option T)). l ++ map (value_at m) (all_lists lists roots)) e.values
      ∙ ap (λ (l : List (Option T)). map Some e.waited ++ l)
      (values_then m e.middle h e.between (all defers left_over batch_size roots m h).reclaimed e.slots.only (all_lists lists roots) e.behind e.cleared.values)
      ∙ sym (map-append Some e.waited e.behind) ∙ ap (λ (l : List T). map Some l) (sym e.order)
