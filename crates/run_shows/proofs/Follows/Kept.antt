-- What a step of a call leaves of the roles of blocks, wherever it is none of a row.
use Rattle.std.specs.Prelude.{◌≡◌, ◌≢◌, ℕ, zero, suc, Bool, List, Option, Some, None}
use Rattle.std.proofs.Common.{refl, ap, sym, subst, ◌∙◌, arith, inl, inr}
use Rattle.seize_words.specs.OneMemory.Mem.{Mem, value_at}
use Rattle.seize.specs.World.{World, Hand, NoBlock, Making, InUse, Parting, Cutting, Handed, LeftTo}
use Rattle.run_effects.specs.Given.TablesNodes.{deferred_word}
use Rattle.run_effects.specs.Given.TablesDeclared.node.Node.{Node}
use Rattle.run_effects.specs.Given.TablesDeclared.node.Node.TheVariants as node
use Rattle.run_effects.specs.Given.TablesDeclared.setting.Setting.{Setting}
use Rattle.run_effects.proofs.Given.TablesLists.{table_list}
use Rattle.run_effects.specs.Given.RuleChart.{Chart}
use Rattle.run_effects.specs.Given.RuleWords.{Blocks}
use Rattle.run_effects.specs.Given.RuleInWorld.{IsOut, IsOwnBlock, IsIts, StaysTable, IsMapIn, StepSpec}
use Rattle.run_effects.proofs.Given.RuleWorld.BesideKept.{steps_spare_others}
use Rattle.run_effects.proofs.Given.RuleWorld.WentTold.{went_as}
use Rattle.run_effects.specs.declared.role.Role.{Role}
use Rattle.run_effects.specs.declared.role.Role.TheVariants as role
use Rattle.run_shows.specs.Follows.Blocks.{WasLinked, HasRole}
use Rattle.run_shows.proofs.Follows.Contents.{Lasts}
use Rattle.run_shows.proofs.Follows.Operations.{StaysThere}

-- what is out was linked
out_linked : (h : Hand) → IsOut h → WasLinked h
out_linked NoBlock out = out
out_linked (Making i) out = out
out_linked (InUse o) out = tt
out_linked (Parting i) out = tt
out_linked (Cutting i) out = tt
out_linked Handed out = tt
out_linked (LeftTo i) out = absurd out

-- a table with places is the same
stays_table : {K V : Type 0} (len limit turn : ℕ) (value : Node K V) → len ≢ 0 → StaysTable (Some (node.Table len limit turn)) (Some value) → value ≡ node.Table len limit turn
stays_table zero limit turn value some stays = absurd (some refl)
stays_table (suc len) limit turn value some stays = stays

-- what is none becomes none
stays_none : {K V : Type 0} (before after : Node K V) → deferred_word before ≡ None → StaysTable (Some before) (Some after) → deferred_word after ≡ None
stays_none (node.Pair k v) after none stays = stays
stays_none (node.Table zero limit turn) after none stays = stays
stays_none {K} {V} (node.Table (suc len) limit turn) after none stays = absurd (let list = table_list K V (suc len) limit turn (omega arith) in cc (list, none))
stays_none node.Shards after none stays = stays

module _ {K V : Type 0} (same : K → K → Bool) (hash : K → ℕ) (setting : Setting) (caller : ℕ) (w : World (Node K V)) (c : Chart K) (blocks : Blocks)
    (m2 : Mem (Node K V)) (Told : World (Node K V) → Chart K → Blocks → Type 0) (went : StepSpec same hash setting caller w c blocks m2 Told) (is_map : IsMapIn same hash setting w c blocks) where
  abbrev pub NoMore : World (Node K V) → Chart K → Blocks → Type 0
  NoMore w2 c2 blocks2 = Unit {0}

  -- what is left over is none of the caller's, and none of its map's
  left_beside : (b i : ℕ) → w.hand b ≡ LeftTo i → IsIts caller w c blocks b → ⊥
  left_beside b i left (inl own) = (let made = own.0 in cc (left, made))
  left_beside b i left (inr (inl (t, l, known, e))) = subst IsOut (ap w.hand (sym e) ∙ left) (is_map.tables_out t l known)
  left_beside b i left (inr (inr (n, l, known, e))) = subst IsOut (ap w.hand (sym e) ∙ left) (is_map.pairs_out n l known)

  -- what was linked, and is there, was linked
  pub linked_on : (b : ℕ) (value : Node K V) → value_at w.memory b ≡ Some value → WasLinked (w.hand b) → WasLinked (went.w2.hand b)
  linked_on b value is linked = by (w.hand b) refl
    where
      out : IsOut (w.hand b) → WasLinked (went.w2.hand b)
      out h = out_linked (went.w2.hand b) (went.links.outs b value is h)

      by : (h : Hand) → w.hand b ≡ h → WasLinked (went.w2.hand b)
      by NoBlock e = absurd (subst WasLinked e linked)
      by (Making i) e = absurd (subst WasLinked e linked)
      by (InUse o) e = out (subst IsOut (sym e) tt)
      by (Parting i) e = out (subst IsOut (sym e) tt)
      by (Cutting i) e = out (subst IsOut (sym e) tt)
      by Handed e = out (subst IsOut (sym e) tt)
      by (LeftTo i) e =
          let went0 = went_as same hash setting caller w c blocks m2 Told NoMore (λ w2 c2 blocks2 map moved alike told. tt) went in
          let kept = steps_spare_others V same hash setting caller w c blocks m2 went0 b value is (left_beside b i e) in
          subst WasLinked (sym kept.hand ∙ refl) linked

  -- the value of what was linked, or is a counter, is as it was
  pub not_own : (b : ℕ) → WasLinked (w.hand b) → IsOwnBlock caller w b → ⊥
  not_own b linked own = subst WasLinked own.0 linked

  value_on : (b : ℕ) (value : Node K V) → value_at w.memory b ≡ Some value → (IsOwnBlock caller w b → ⊥) → value_at went.w2.memory b ≡ Some value
  value_on b value is other = ap (λ (m : Mem (Node K V)). value_at m b) went.memory ∙ went.frame.values b value is other

  stays_of : (b : ℕ) (value after : Node K V) → value_at w.memory b ≡ Some value → value_at m2 b ≡ Some after → StaysTable (Some value) (Some after)
  stays_of b value after is is2 = subst (λ (o : Option (Node K V)). StaysTable (Some value) o) is2 (subst (λ (o : Option (Node K V)). StaysTable o (value_at m2 b)) is (went.frame.tables b))

  -- a block that stays there has its role still
  pub role_kept : (stored more : List (K × V)) → Lasts stored more → (b : ℕ) → StaysThere w.memory m2 b → (r : Role) → HasRole w stored b r → HasRole went.w2 more b r
  role_kept stored more lasts b stays role.Free none = ap (λ (m : Mem (Node K V)). value_at m b) went.memory ∙ stays.gone none
  role_kept stored more lasts b stays (role.OwnPair i) own =
      let now = stays.there own.0 own.1 in (now.0, ap (λ (m : Mem (Node K V)). value_at m b) went.memory ∙ now.1, stays_none own.0 now.0 own.2 (stays_of b own.0 now.0 own.1 now.1))
  role_kept stored more lasts b stays (role.OwnTable turn shape) own =
      let now = stays.there _ own.1 in
      (own.0, ap (λ (m : Mem (Node K V)). value_at m b) went.memory ∙ now.1 ∙ ap Some (stays_table shape.len shape.limit turn now.0 own.0 (stays_of b _ now.0 own.1 now.1)))
  role_kept stored more lasts b stays (role.Pair n) own =
      (own.0, own.1, lasts n (own.0, own.1) own.2, value_on b _ own.3 (not_own b own.4), linked_on b _ own.3 own.4)
  role_kept stored more lasts b stays (role.Table t len) own = (own.0, value_on b _ own.1 (not_own b own.2), linked_on b _ own.1 own.2)
  role_kept stored more lasts b stays (role.Counter map) own = value_on b _ own (λ mine. mine.1 own)
