-- A step of the making of a map of no table: it looks at nothing, goes on with fewer steps left, or has ended.
use Rattle.std.specs.Prelude.{◌-◌, nat_lt, Option, Some, Ok, Err, if◌then◌else◌}
use Rattle.std.proofs.Common.{◌≡◌, ℕ, ◌+◌, Bool, true, false, refl, sym, subst, ap, arith}
use Rattle.std.proofs.lemmas.Bool.{eq-eqb, ltb-true}
use Rattle.seize_words.specs.OneMemory.Op.{Op, Out, Found, Stored, Exchanged, Made, Taken, Roomed}
use Rattle.seize_words.specs.declared.fault.Fault.TheVariants.{RootsUsedUp}
use Rattle.seize.specs.declared.advance.Advance.{Advance}
use Rattle.seize.specs.declared.advance.Advance.TheVariants as progress
use Rattle.map_tables.specs.declared.node.Node.{Node}
use Rattle.map_tables.specs.declared.setting.Setting.{Setting}
use Rattle.map_machines.specs.NewMap.{with_shards, with_counter, at_root, goes, done, refused, plan_at, new_map_plan}
use Rattle.map_machines.specs.NewTable.{first_table}
use Rattle.map_machines.specs.declared.new_map.NewMap.{NewMap}
use Rattle.map_machines.specs.declared.new_map.Opening.{Opening}
use Rattle.map_machines.specs.declared.new_map.Opening.TheVariants as at
use Rattle.seize_views.specs.Views.Told.{FollowsBy}
use Rattle.seize_views.proofs.Views.Looks.{rest_of, IsNow}
use Rattle.seize_views.specs.Views.Promises.{op_in}
use Rattle.threads_kinds.specs.CallKinds.Answers.{IsAnswer}
use Rattle.threads_kinds.specs.Makings.{IsEarly, left_at, StaysChosen, GetsOn}
use Rattle.threads_kinds.proofs.CallKinds.Plans.{LeavesValues, IsAnsweredBy, answered_by}
use Rattle.seize_views.proofs.Views.Makes.{IsDo}

-- what a step tells: it goes on early, with no table to make
abbrev pub GoesEarly : NewMap × Advance Setting → Type 0
GoesEarly (d, progress.Goes) = IsEarly d.stands × (d.len ≡ 0)
GoesEarly (d, progress.Waits) = ⊥
GoesEarly (d, progress.Done setting) = Unit {0}
GoesEarly (d, progress.Refused fault) = Unit {0}

abbrev pub TellsSo : NewMap → NewMap × Advance Setting → Type 0
TellsSo c end = GoesEarly end × StaysChosen c end.0 end.1 × GetsOn c end.0 end.1

module _ (c : NewMap) (none : c.len ≡ 0) where
  -- the next root is tried, if there is one
  next_tells : (k : Bool) → nat_lt c.setting.root (c.roots - 1) ≡ k → c.stands ≡ at.Takes
      → TellsSo c (if k then (record c { setting = at_root c.setting (c.setting.root + 1) }, progress.Goes) else refused c RootsUsedUp)
  next_tells true less takes =
      let before = ap (λ (p : Opening). left_at p (c.roots - c.setting.root)) takes in
      let after = ap (λ (p : Opening). left_at p (c.roots - (c.setting.root + 1))) takes in
      let below = ltb-true c.setting.root (c.roots - 1) less in
      ((subst IsEarly (sym takes) tt, none), refl, omega (arith, before, after, below))
  next_tells false less takes = (tt, refl, tt)

  -- the shards are there, and so is the map
  shards_tell : (block : ℕ) → TellsSo c (with_shards (record c { setting = with_counter c.setting block }))
  shards_tell block =
      subst (λ (k : Bool). TellsSo c (if k then done (record c { setting = with_counter c.setting block })
      else goes (record c { setting = with_counter c.setting block }) (at.Tables (first_table (with_counter c.setting block) c.len)))) (sym (eq-eqb c.len 0 none)) (tt, refl, tt)

module _ {K V : Type 0} where
  module _ (c : NewMap) (none : c.len ≡ 0) (shown : ℕ → Option (Node K V)) where
    tells_at : (p : Opening) → c.stands ≡ p → IsEarly p → (out : Out (Node K V)) (end : NewMap × Advance Setting) → IsAnsweredBy (plan_at {K = K} {V = V} c p) out
        → FollowsBy shown (plan_at {K = K} {V = V} c p) out end → TellsSo c end
    tells_at at.Takes is early (Exchanged (Ok free)) end fits e =
        let before = ap (λ (p : Opening). left_at p (c.roots - c.setting.root)) is in
        subst (TellsSo c) (sym e) ((tt, none), refl, omega (arith, before))
    tells_at at.Takes is early (Exchanged (Err used)) end fits e =
        subst (TellsSo c) (sym e) (next_tells c none (nat_lt c.setting.root (c.roots - 1)) refl is)
    tells_at at.Takes is early (Found word) end fits e = absurd fits
    tells_at at.Takes is early Stored end fits e = absurd fits
    tells_at at.Takes is early (Made r) end fits e = absurd fits
    tells_at at.Takes is early (Taken x) end fits e = absurd fits
    tells_at at.Takes is early (Roomed r) end fits e = absurd fits
    tells_at at.Shards is early (Made (Ok block)) end fits e = subst (TellsSo c) (sym e) (shards_tell c none block)
    tells_at at.Shards is early (Made (Err value)) end fits e =
        let before = ap (λ (p : Opening). left_at p (c.roots - c.setting.root)) is in
        subst (TellsSo c) (sym e) ((tt, none), refl, omega (arith, before))
    tells_at at.Shards is early (Found word) end fits e = absurd fits
    tells_at at.Shards is early Stored end fits e = absurd fits
    tells_at at.Shards is early (Exchanged r) end fits e = absurd fits
    tells_at at.Shards is early (Taken x) end fits e = absurd fits
    tells_at at.Shards is early (Roomed r) end fits e = absurd fits
    tells_at (at.Frees fault) is early out end fits e = subst (TellsSo c) (sym e) (tt, refl, tt)
    tells_at (at.Tables making) is early out end fits e = absurd early
    tells_at (at.Unmakes fault) is early out end fits e = absurd early
    tells_at at.Over is early out end fits e = absurd early
    tells_at (at.Refused fault) is early out end fits e = absurd early

    pub tells : IsEarly c.stands → (op : Op (Node K V)) (out : Out (Node K V)) (end : NewMap × Advance Setting) → op_in (new_map_plan {K = K} {V = V} c) ≡ Some op → IsAnswer op out
        → FollowsBy shown (new_map_plan {K = K} {V = V} c) out end → TellsSo c end
    tells early op out end e fits f = tells_at c.stands refl early out end (answered_by (new_map_plan {K = K} {V = V} c) op out e fits) f

module _ (K V : Type 0) where
  -- it makes one operation, which replaces no value, and looks at nothing
  pub is_do : (c : NewMap) (p : Opening) → IsEarly p → IsDo (plan_at {K = K} {V = V} c p)
  is_do c at.Takes early = tt
  is_do c at.Shards early = tt
  is_do c (at.Frees fault) early = tt
  is_do c (at.Tables making) early = absurd early
  is_do c (at.Unmakes fault) early = absurd early
  is_do c at.Over early = absurd early
  is_do c (at.Refused fault) early = absurd early

  pub leaves : (c : NewMap) (p : Opening) → IsEarly p → LeavesValues (plan_at {K = K} {V = V} c p)
  leaves c at.Takes early = tt
  leaves c at.Shards early = tt
  leaves c (at.Frees fault) early = tt
  leaves c (at.Tables making) early = absurd early
  leaves c (at.Unmakes fault) early = absurd early
  leaves c at.Over early = absurd early
  leaves c (at.Refused fault) early = absurd early

  pub is_now : (c : NewMap) (p : Opening) → IsEarly p → (out : Out (Node K V)) → IsNow (rest_of (plan_at {K = K} {V = V} c p) out)
  is_now c at.Takes early (Exchanged (Ok free)) = tt
  is_now c at.Takes early (Exchanged (Err used)) = tt
  is_now c at.Takes early (Found word) = tt
  is_now c at.Takes early Stored = tt
  is_now c at.Takes early (Made r) = tt
  is_now c at.Takes early (Taken x) = tt
  is_now c at.Takes early (Roomed r) = tt
  is_now c at.Shards early (Made (Ok block)) = tt
  is_now c at.Shards early (Made (Err value)) = tt
  is_now c at.Shards early (Found word) = tt
  is_now c at.Shards early Stored = tt
  is_now c at.Shards early (Exchanged r) = tt
  is_now c at.Shards early (Taken x) = tt
  is_now c at.Shards early (Roomed r) = tt
  is_now c (at.Frees fault) early out = tt
  is_now c (at.Tables making) early out = absurd early
  is_now c (at.Unmakes fault) early out = absurd early
  is_now c at.Over early out = absurd early
  is_now c (at.Refused fault) early out = absurd early
