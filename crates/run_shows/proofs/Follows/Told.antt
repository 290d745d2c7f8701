-- What a step of a call does, and leaves of the roles of blocks, where it moves no pair and no table.
use Rattle.std.specs.Prelude.{◌&&◌, ◌≡◌, ◌≢◌, ℕ, zero, suc, ◌+◌, ◌<◌, nat_le, nat_lt, Bool, true, false, List, [], ◌∷◌, Some, None, if◌then◌else◌}
use Rattle.std.proofs.Common.{refl, ap, sym, subst, ◌∙◌, arith, inl, inr}
use Rattle.std.proofs.lemmas.Bool.{ne_eqb, cases_eq}
use Rattle.seize_words.specs.declared.at.At.{At}
use Rattle.seize_words.specs.OneMemory.Mem.{Mem, value_at}
use Rattle.seize.specs.World.{World}
use Rattle.run_effects.specs.Given.TablesDeclared.node.Node.{Node}
use Rattle.run_effects.specs.Given.TablesDeclared.node.Node.TheVariants as node
use Rattle.run_effects.specs.Given.TablesDeclared.setting.Setting.{Setting}
use Rattle.run_effects.specs.Given.RunsDeclared.effect.Effect.{Effect}
use Rattle.run_effects.specs.Given.RunsDeclared.effect.Effect.TheVariants.{Asked}
use Rattle.run_effects.specs.Given.RunsDeclared.effect.Growth.TheVariants.{ABucket}
use Rattle.run_effects.specs.Given.SchedulesLists.{put}
use Rattle.run_effects.specs.ReportingMemory.Changed.{kind_of}
use Rattle.run_effects.specs.declared.changed.Changed.{Changed}
use Rattle.run_effects.specs.declared.changed.Changed.TheVariants as changed
use Rattle.run_effects.specs.declared.changed.Kind.{Kind}
use Rattle.run_effects.specs.declared.changed.Kind.TheVariants as kind
use Rattle.run_effects.specs.Tells.Tells.{PreservesNames}
use Rattle.run_effects.specs.Given.RuleChart.{Chart}
use Rattle.run_effects.specs.Given.RuleWords.{Blocks}
use Rattle.run_effects.specs.Given.RuleInWorld.{IsMapIn, StepSpec}
use Rattle.run_effects.specs.Effects.Effects.{made_role, taken_by, effects_of, known_after}
use Rattle.run_effects.specs.Effects.Known.{Known, with_role}
use Rattle.run_effects.specs.declared.acting.Acting.{Acting}
use Rattle.run_effects.specs.declared.acting.Acting.TheVariants.{Call}
use Rattle.run_effects.specs.declared.role.Role.{Role}
use Rattle.run_effects.specs.declared.role.Role.TheVariants as role
use Rattle.run_shows.specs.Follows.Blocks.{HasRole}
use Rattle.run_shows.specs.Follows.Maps.{table_of}
use Rattle.run_shows.proofs.Follows.Alike.{AllStill, calm_still, put_here, put_elsewhere}
use Rattle.run_shows.proofs.Follows.Kept.{role_kept, not_own}
use Rattle.run_shows.proofs.Follows.Onward.{IsLasting, IsOfMap, KeepsRoles}
use Rattle.run_shows.proofs.Follows.Operations.{StaysThere, LeavesBy}
use Rattle.run_shows.proofs.Follows.Quiet.{written_still}
use Rattle.run_shows.proofs.Others.MadeBlocks.{not_pair as made_no_pair, still_made as made_still}

-- no two blocks are one pair
abbrev pub ArePairsOnce : (ℕ → Role) → Type 0
ArePairsOnce roles = (b d n : ℕ) → roles b ≡ role.Pair n → roles d ≡ role.Pair n → b ≡ d

-- where one block becomes no pair
pub once_put : (roles : ℕ → Role) (x : ℕ) (r : Role) → ((n : ℕ) → r ≡ role.Pair n → ⊥) → ArePairsOnce roles → ArePairsOnce (put x r roles)
once_put roles x r none once b d n is is2 = once b d n (sym (put_elsewhere x r roles b (apart b is)) ∙ is) (sym (put_elsewhere x r roles d (apart d is2)) ∙ is2)
  where
    apart : (y : ℕ) → put x r roles y ≡ role.Pair n → y ≢ x
    apart y at e = none n (sym (put_here x r roles y e) ∙ at)

made_not_of : (acting : Acting) (k : Kind) → IsOfMap (made_role acting k) → ⊥
made_not_of acting kind.Pair of = of
made_not_of acting (kind.Table len limit turn) of = of
made_not_of acting kind.Shards of = of

-- room for slots makes no block another one
pub roomed_as_many : (acting : Acting) (known : Known) (bucket : ℕ) (had : Bool)
    → ((known_after acting (changed.Roomed bucket had) known).roles ≡ known.roles) × ((known_after acting (changed.Roomed bucket had) known).stored ≡ known.stored)
roomed_as_many acting known bucket true = by (nat_le known.buckets bucket)
  where
    by : (q : Bool) → ((if q then record known { buckets = bucket + 1 } else known).roles ≡ known.roles) × ((if q then record known { buckets = bucket + 1 } else known).stored ≡ known.stored)
    by true = (refl, refl)
    by false = (refl, refl)
roomed_as_many acting known bucket false = (refl, refl)

module _ {K V : Type 0} (same : K → K → Bool) (hash : K → ℕ) (setting : Setting) (caller : ℕ) (w : World (Node K V)) (c : Chart K) (blocks : Blocks)
    (m2 : Mem (Node K V)) (Told : World (Node K V) → Chart K → Blocks → Type 0) (went : StepSpec same hash setting caller w c blocks m2 Told) (is_map : IsMapIn same hash setting w c blocks)
    (map : ℕ) (count : List (K × V)) (known : Known) (had : (b : ℕ) → HasRole w count b (known.roles b)) (single : ArePairsOnce known.roles)
    (tables : (t : ℕ) → t < c.past → blocks.table_known t ≡ true → known.roles (blocks.table t) ≡ role.Table (table_of map t) (c.len t)) where
  abbrev pub its : Acting
  its = Call caller map

  -- nothing has moved: each block has its role, and those that were linked have the same, and no others
  pub record IsQuiet (effects : List Effect) (after : Known) : Type 0 where
    pub still : AllStill effects
    pub keeps : KeepsRoles known after
    pub back : (b : ℕ) → IsOfMap (after.roles b) → known.roles b ≡ after.roles b
    pub roles : (b : ℕ) → HasRole went.w2 count b (after.roles b)
    pub once : ArePairsOnce after.roles
    pub stored : after.stored ≡ known.stored

  kept : (b : ℕ) → StaysThere w.memory m2 b → (r : Role) → HasRole w count b r → HasRole went.w2 count b r
  kept b stays r has = role_kept same hash setting caller w c blocks m2 Told went is_map count count (λ n p is. is) b stays r has

  -- what was linked or is a counter is not there to be made, or taken away
  lasts : (b : ℕ) (r : Role) → HasRole w count b r → IsLasting r → (value_at w.memory b ≡ None → ⊥) × (value_at m2 b ≡ None → ⊥)
  lasts b role.Free has last = absurd last
  lasts b (role.OwnPair i) has last = absurd last
  lasts b (role.OwnTable turn shape) has last = absurd last
  lasts b (role.Pair n) has last = (
    λ none. (let some = has.3 in cc (some, none)),
    λ none. (let some = went.frame.values b _ has.3 (not_own same hash setting caller w c blocks m2 Told went is_map b has.4) in cc (some, none)),
  )
  lasts b (role.Table t len) has last = (
    λ none. (let some = has.1 in cc (some, none)),
    λ none. (let some = went.frame.values b _ has.1 (not_own same hash setting caller w c blocks m2 Told went is_map b has.2) in cc (some, none)),
  )
  lasts b (role.Counter of) has last = (λ none. cc (has, none), λ none. (let some = went.frame.values b _ has (λ own. own.1 has) in cc (some, none)))

  pub as_before : (effects : List Effect) → AllStill effects → (after : Known) → after.roles ≡ known.roles → after.stored ≡ known.stored → ((b : ℕ) → StaysThere w.memory m2 b) → IsQuiet effects after
  as_before effects still after same_roles as_many stays = record {
    still = still;
    keeps = λ b last. ap (λ (f : ℕ → Role). f b) same_roles;
    back = λ b of. ap (λ (f : ℕ → Role). f b) (sym same_roles);
    roles = λ b. subst (λ (f : ℕ → Role). HasRole went.w2 count b (f b)) (sym same_roles) (kept b (stays b) (known.roles b) (had b));
    once = subst ArePairsOnce (sym same_roles) single;
    stored = as_many;
  }

  one_put : (effects : List Effect) → AllStill effects → (x : ℕ) (r : Role) → (IsLasting (known.roles x) → ⊥) → HasRole went.w2 count x r → ((n : ℕ) → r ≡ role.Pair n → ⊥)
      → (IsOfMap r → ⊥) → ((b : ℕ) → b ≢ x → StaysThere w.memory m2 b) → IsQuiet effects (with_role x r known)
  one_put effects still x r none has no_pair not_of stays = record {
    still = still;
    keeps = λ b last. put_elsewhere x r known.roles b (λ e. none (subst (λ (y : ℕ). IsLasting (known.roles y)) e last));
    back = λ b of. elim (cases_eq b x) as (λ _. known.roles b ≡ put x r known.roles b) [
      | inl e ↦ absurd (not_of (subst IsOfMap (put_here x r known.roles b e) of))
      | inr ne ↦ sym (put_elsewhere x r known.roles b ne)
    ];
    roles = λ b. elim (cases_eq b x) as (λ _. HasRole went.w2 count b (put x r known.roles b)) [
      | inl e ↦ subst (λ (q : Role). HasRole went.w2 count b q) (sym (put_here x r known.roles b e)) (subst (λ (y : ℕ). HasRole went.w2 count y r) (sym e) has)
      | inr ne ↦ subst (λ (q : Role). HasRole went.w2 count b q) (sym (put_elsewhere x r known.roles b ne)) (kept b (stays b ne) (known.roles b) (had b))
    ];
    once = once_put known.roles x r no_pair single;
    stored = refl;
  }

  -- a value is of the kind that is told
  made_has : (b : ℕ) (value : Node K V) → value_at m2 b ≡ Some value → HasRole went.w2 count b (made_role its (kind_of value))
  made_has b (node.Pair k v) is = (node.Pair k v, ap (λ (m : Mem (Node K V)). value_at m b) went.memory ∙ is, refl)
  made_has b (node.Table zero limit turn) is = (node.Table zero limit turn, ap (λ (m : Mem (Node K V)). value_at m b) went.memory ∙ is, refl)
  made_has b (node.Table (suc len) limit turn) is =
      subst (λ (k : Kind). HasRole went.w2 count b (made_role its k)) (sym (ap (λ q. if q then kind.Pair else kind.Table (suc len) limit turn) (ne_eqb (suc len) 0 (λ e. omega (arith, e)))))
      (λ e. omega (arith, e), ap (λ (m : Mem (Node K V)). value_at m b) went.memory ∙ is)
  made_has b node.Shards is = ap (λ (m : Mem (Node K V)). value_at m b) went.memory ∙ is

  -- what was taken away was a caller's own
  taken_still : (b : ℕ) (r : Role) → (IsLasting r → ⊥) → AllStill (taken_by its r)
  taken_still b role.Free none = tt
  taken_still b (role.OwnPair i) none = (refl, tt)
  taken_still b (role.OwnTable turn shape) none = (refl, tt)
  taken_still b (role.Pair n) none = absurd (none tt)
  taken_still b (role.Table t len) none = absurd (none tt)
  taken_still b (role.Counter of) none = tt

  roomed_still : (q : Bool) → AllStill (if q then [] else Asked ABucket ∷ [])
  roomed_still true = tt
  roomed_still false = (refl, tt)

  -- so it is where each word that was written goes on naming what it named
  pub quiet_told : (told : Changed) → LeavesBy w.memory m2 told → ((at : At) (old new : ℕ) → told ≡ changed.Wrote at old new → PreservesNames setting c blocks at old new)
      → IsQuiet (effects_of its known told) (known_after its told known)
  quiet_told changed.Nothing left quiet = as_before [] tt known refl refl left
  quiet_told (changed.Wrote at old new) left quiet =
      let done = written_still same hash setting caller w c blocks m2 Told went is_map map count known had tables at old new left.0 left.1 (quiet at old new refl) in
      as_before (effects_of its known (changed.Wrote at old new)) (calm_still (effects_of its known (changed.Wrote at old new)) done.0) (known_after its (changed.Wrote at old new) known) (ap (λ (k : Known). k.roles) done.1) (ap (λ (k : Known). k.stored) done.1)
      (λ b. record { gone = λ none. left.2 b ∙ none; there = λ value is. (value, left.2 b ∙ is) })
  quiet_told (changed.Made k b) left quiet =
      one_put (effects_of its known (changed.Made k b)) (made_still its k) b (made_role its k) (λ last. (lasts b (known.roles b) (had b) last).0 left.0)
      (subst (λ (x : Kind). HasRole went.w2 count b (made_role its x)) left.2 (made_has b left.1 left.3)) (made_no_pair its k) (made_not_of its k) left.4
  quiet_told (changed.Unmade k) left quiet = as_before (effects_of its known (changed.Unmade k)) (refl, tt) known refl refl left
  quiet_told (changed.Took b) left quiet =
      one_put (taken_by its (known.roles b)) (taken_still b (known.roles b) none) b role.Free none (ap (λ (m : Mem (Node K V)). value_at m b) went.memory ∙ left.1) (λ n e. cc e) (λ of. of) left.2
    where
      none : IsLasting (known.roles b) → ⊥
      none last = (lasts b (known.roles b) (had b) last).1 left.1
  quiet_told (changed.Roomed bucket had) left quiet =
      let same_roles = roomed_as_many its known bucket had in
      as_before (effects_of its known (changed.Roomed bucket had)) (roomed_still (had && nat_lt bucket known.buckets)) (known_after its (changed.Roomed bucket had) known) same_roles.0 same_roles.1 left
