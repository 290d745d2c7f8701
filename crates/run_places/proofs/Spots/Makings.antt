-- A step of the making of a map leaves pairs where they lie, and no pair lies in its map.
use Rattle.std.specs.Prelude.{◌≡◌, ◌≢◌, ℕ, Bool, true, false, List, [], ◌∷◌, Option, Some, None, if◌then◌else◌}
use Rattle.std.proofs.Common.{refl, ap, sym, subst, ◌∙◌, arith, inl, inr}
use Rattle.std.proofs.lemmas.Bool.{cases_eq}
use Rattle.run_shows.specs.Given.SeizeWordsMem.{word_at}
use Rattle.run_shows.specs.Given.SeizeWordsWord.{block_in}
use Rattle.run_shows.specs.Given.SeizeWordsDeclared.at.At.TheVariants.{Root, Used, Slot, Entry, Word}
use Rattle.run_shows.specs.Given.SeizeWorld.{World}
use Rattle.run_shows.specs.Given.SeizeDeclared.advance.Advance.{Advance}
use Rattle.run_shows.specs.Given.SeizeDeclared.advance.Advance.TheVariants as progress
use Rattle.run_shows.specs.Given.TablesDeclared.node.Node.{Node}
use Rattle.run_shows.specs.Given.TablesDeclared.setting.Setting.{Setting}
use Rattle.run_shows.specs.Given.TablesDeclared.status.TheConstants.Status.{ABORTED}
use Rattle.run_shows.specs.Given.ResizeDeclared.new_map.NewMap.{NewMap}
use Rattle.run_shows.specs.Given.RunsDeclared.effect.Effect.{Effect}
use Rattle.run_shows.specs.Given.RunsDeclared.effect.Effect.TheVariants.{Asked}
use Rattle.run_shows.specs.Given.RunsDeclared.effect.Growth.TheVariants.{ABlock}
use Rattle.run_shows.specs.Given.RunsDeclared.effect.TableId.{TableId}
use Rattle.run_shows.specs.Given.SchedulesEffects.{with_effects, AtEachEffect}
use Rattle.run_shows.specs.Given.SchedulesMoment.{Moment}
use Rattle.run_shows.specs.Given.EffectsDeclared.changed.Changed.{Changed}
use Rattle.run_shows.specs.Given.EffectsDeclared.changed.Changed.TheVariants as changed
use Rattle.run_shows.specs.Given.EffectsDeclared.changed.Kind.{Kind}
use Rattle.run_shows.specs.Given.EffectsDeclared.changed.Kind.TheVariants as kind
use Rattle.run_shows.specs.Given.RuleChart.{Chart}
use Rattle.run_shows.proofs.Given.CallersTogether.At.{at_other, at_same}
use Rattle.run_shows.specs.Given.FinishesMakings.{Beginning, IsNewChart}
use Rattle.run_shows.specs.Given.FinishesMaps.{Standing}
use Rattle.run_shows.specs.Given.EffectsEffects.{made_role, made_by, taken_by, led_to, in_block, in_block_on, linked_on, named, names_same, effects_of, known_after}
use Rattle.run_shows.specs.Given.EffectsKnown.{Known, with_role}
use Rattle.run_shows.specs.Given.EffectsDeclared.acting.Acting.{Acting}
use Rattle.run_shows.specs.Given.EffectsDeclared.acting.Acting.TheVariants.{Making}
use Rattle.run_shows.specs.Given.EffectsDeclared.role.Role.{Role}
use Rattle.run_shows.specs.Given.EffectsDeclared.role.Role.TheVariants as role
use Rattle.run_shows.proofs.Follows.Alike.{put_here, put_elsewhere}
use Rattle.run_shows.proofs.Follows.Operations.{LeavesBy}
use Rattle.run_shows.proofs.Follows.Writes.{nothing_free}
use Rattle.run_shows.specs.Others.Makings.{making_after}
use Rattle.run_shows.proofs.Others.MakingPlans.{TellsMaking}
use Rattle.run_shows.proofs.Others.Makes.{tells, left, no_table_word}
use Rattle.run_shows.proofs.Others.Stays.{same_maps}
use Rattle.run_places.specs.Spots.Deferred.{FindsNumbers}
use Rattle.run_places.specs.Spots.Makings.{MakingsLeavePlaces}
use Rattle.run_places.specs.Spots.Spots.{IsPairOf, RefinesSpots, RefinesPlaces}
use Rattle.run_places.proofs.Spots.Deferred.{effects_leave_outside}
use Rattle.run_places.proofs.Spots.Effects.{AllAside}
use Rattle.run_places.proofs.Spots.Rows.{same_pairs}
use Rattle.run_places.proofs.Spots.Stays.{WerePairs, places_stay}
use Rattle.run_shows.specs.Scenes.Held.{Held}
use Rattle.run_shows.specs.Scenes.Making.{MakingHasOutcome}
use Rattle.run_shows.specs.Scenes.Scene.{Scene}
use Rattle.run_shows.proofs.Given.General.{same_some as one_of}

-- a block becomes no pair
pub put_pairs : (known : Known) (x : ℕ) (r : Role) → ((n : ℕ) → r ≡ role.Pair n → ⊥) → WerePairs known (with_role x r known)
put_pairs known x r none b k is = sym (put_elsewhere x r known.roles b (λ e. none k (sym (put_here x r known.roles b e) ∙ is))) ∙ is

module _ {K V : Type 0} (map : ℕ) (of : Option ℕ) (m : Moment K V) (known : Known) where
  abbrev its : Acting
  its = Making map

  abbrev pub IsBeside : List Effect → Type 0
  IsBeside effects = AllAside effects × AtEachEffect FindsNumbers None of effects m

  made_beside : (k : Kind) → IsBeside (Asked ABlock ∷ made_by its k)
  made_beside kind.Pair = ((refl, (refl, tt)), (tt, (tt, tt)))
  made_beside (kind.Table len limit turn) = ((refl, (refl, tt)), (tt, (tt, tt)))
  made_beside kind.Shards = ((refl, tt), (tt, tt))

  made_no_pair : (k : Kind) (n : ℕ) → made_role its k ≡ role.Pair n → ⊥
  made_no_pair kind.Pair n e = cc e
  made_no_pair (kind.Table len limit turn) n e = cc e
  made_no_pair kind.Shards n e = cc e

  taken_beside : (r : Role) → IsBeside (taken_by its r)
  taken_beside role.Free = (tt, tt)
  taken_beside (role.OwnPair i) = ((refl, tt), (tt, tt))
  taken_beside (role.OwnTable turn shape) = ((refl, tt), (tt, tt))
  taken_beside (role.Pair n) = ((refl, tt), (tt, tt))
  taken_beside (role.Table t len) = ((refl, tt), (tt, tt))
  taken_beside (role.Counter of) = (tt, tt)

  -- a root that led nowhere leads to a table
  led_beside : (q : Bool) (is : Role) → IsBeside (if q then [] else led_to its role.Free is)
  led_beside true is = (tt, tt)
  led_beside false role.Free = (tt, tt)
  led_beside false (role.OwnPair i) = (tt, tt)
  led_beside false (role.OwnTable turn shape) = ((refl, tt), (tt, tt))
  led_beside false (role.Pair n) = (tt, tt)
  led_beside false (role.Table t len) = (tt, tt)
  led_beside false (role.Counter of) = (tt, tt)

  linked_pairs : (b : ℕ) (r : Role) → WerePairs known (linked_on its b r known)
  linked_pairs b role.Free = same_pairs known known refl
  linked_pairs b (role.OwnPair i) = same_pairs known known refl
  linked_pairs b (role.OwnTable turn shape) = put_pairs known b (role.Table (record { map = map; turn = turn }) shape.len) (λ n e. cc e)
  linked_pairs b (role.Pair n) = same_pairs known known refl
  linked_pairs b (role.Table t len) = same_pairs known known refl
  linked_pairs b (role.Counter of) = same_pairs known known refl

  root_pairs : (q : Bool) (b : ℕ) (r : Role) → WerePairs known (if q then known else linked_on its b r known)
  root_pairs true b r = same_pairs known known refl
  root_pairs false b r = linked_pairs b r

  -- a word of a block that is no table, or that goes on naming what it named
  word_beside : (field b : ℕ) (r : Role) (q : Bool) (was is : Role) → ((t : TableId) (len : ℕ) → r ≡ role.Table t len → q ≡ true)
      → IsBeside (in_block its r field known.stored q was is) × WerePairs known (in_block_on its r field q b is known)
  word_beside field b role.Free q was is names = ((tt, tt), same_pairs known known refl)
  word_beside field b (role.OwnPair i) q was is names = ((tt, tt), same_pairs known known refl)
  word_beside field b (role.OwnTable turn shape) q was is names = ((tt, tt), same_pairs known known refl)
  word_beside field b (role.Pair n) q was is names = ((tt, tt), same_pairs known known refl)
  word_beside field b (role.Counter of) q was is names = (((refl, tt), (tt, tt)), same_pairs known known refl)
  word_beside field b (role.Table t len) true was is names = ((tt, tt), same_pairs known known refl)
  word_beside field b (role.Table t len) false was is names = absurd (let e = names t len refl in cc e)

  module _ (w w2 : World (Node K V)) (i root : ℕ) (free : known.roles 0 ≡ role.Free) (no_table : (x : ℕ) (q : Bool) → TellsMaking w i root (changed.Wrote (Word x 0) 0 0) → (t : TableId) (len : ℕ) → known.roles x ≡ role.Table t len → q ≡ true) where
    making_beside : (told : Changed) → TellsMaking w i root told → LeavesBy w.memory w2.memory told → IsBeside (effects_of its known told) × WerePairs known (known_after its told known)
    making_beside changed.Nothing so l = ((tt, tt), same_pairs known known refl)
    making_beside (changed.Wrote (Root r) before after) so l = (
      subst (λ (x : Role). IsBeside (if names_same before after then [] else led_to its x (named known after))) (sym was_free) (led_beside (names_same before after) (named known after)),
      root_pairs (names_same before after) (block_in after) (named known after),
    )
      where
        nothing_before : before ≡ 0
        nothing_before = let there : word_at w.memory (Root r) ≡ Some 0 = ap (λ (x : ℕ). word_at w.memory (Root x)) so.0 ∙ so.1 in let words = l.0 in cc (there, words)

        was_free : named known before ≡ role.Free
        was_free = ap (λ (x : ℕ). known.roles (block_in x)) nothing_before ∙ free
    making_beside (changed.Wrote (Used r) before after) so l = ((tt, tt), same_pairs known known refl)
    making_beside (changed.Wrote (Slot t field) before after) so l = absurd so
    making_beside (changed.Wrote (Entry x field) before after) so l = absurd so
    making_beside (changed.Wrote (Word x field) before after) so l =
        word_beside field (block_in after) (known.roles x) (names_same before after) (named known before) (named known after) (no_table x (names_same before after) so)
    making_beside (changed.Made k x) so l = (made_beside k, put_pairs known x (made_role its k) (made_no_pair k))
    making_beside (changed.Unmade k) so l = (((refl, tt), (tt, tt)), same_pairs known known refl)
    making_beside (changed.Took x) so l = (taken_beside (known.roles x), put_pairs known x role.Free (λ n e. cc e))
    making_beside (changed.Roomed bucket had) so l = absurd so

-- in a map that is new no pair lies
module _ {K V : Type 0} (hash : K → ℕ) (setting : Setting) (places : ℕ) (st : Standing K) (m : Moment K V) (known : Known) where
  has_none : IsNewChart hash setting places st.chart → (st.chart.stored ≡ 0) × (st.chart.status 0 ≢ ABORTED)
  has_none (inl (none, is)) = (ap (λ (x : Chart K). x.stored) is, subst (λ (x : Chart K). x.status 0 ≢ ABORTED) (sym is) (λ e. omega (arith, e)))
  has_none (inr (some, limit, is)) = (ap (λ (x : Chart K). x.stored) is, subst (λ (x : Chart K). x.status 0 ≢ ABORTED) (sym is) (λ e. omega (arith, e)))

  pub new_map_lies : IsNewChart hash setting places st.chart → RefinesSpots st m known
  new_map_lies new = record {
    born = λ n k t i b pair e. absurd (never n k pair);
    whole = (has_none new).1;
    lies = λ n k pair current. absurd (never n k pair);
    copied = λ e n k pair current. absurd (never n k pair);
  }
    where
      never : (n k : ℕ) → IsPairOf st known n k → ⊥
      never n k pair = let l = pair.0 in let none = (has_none new).0 in omega (arith, l, none)

module _ {K V : Type 0} (same : K → K → Bool) (hash : ℕ → K → ℕ) (s : Scene K V) (old new : Held K V) (i : ℕ) (b : Beginning K) (opening : NewMap) (w2 : World (Node K V)) (v : Moment K V) (known2 : Known) where
  places_then : (told : Advance Setting) (comes : MakingHasOutcome same hash s old new i b opening w2 told) → RefinesPlaces v known2 s.maps → RefinesPlaces v known2 (making_after same hash s old new i b opening w2 told comes).maps
  places_then progress.Goes comes h = h
  places_then progress.Waits comes h = h
  places_then (progress.Refused fault) comes h = h
  places_then (progress.Done setting) comes h = record {
    each = λ n st is. elim (cases_eq n b.map) as (λ _. RefinesSpots st v known2) [
      | inl e ↦ subst (λ (x : Standing K). RefinesSpots x v known2) (one_of comes.0 st (sym (at_same s.maps b.map (Some comes.0) n e) ∙ is)) (new_map_lies b.hash setting b.places comes.0 v known2 comes.1.chart_is)
      | inr ne ↦ h.each n st (sym (at_other s.maps b.map (Some comes.0) n ne) ∙ is)
    ];
    fresh = h.fresh;
  }

module _ (K V : Type 0) (same : K → K → Bool) (hash : ℕ → K → ℕ) where
  pub makings_leave_places : MakingsLeavePlaces K V same hash
  makings_leave_places name m known s old new at shown i told leads b here of lying outside =
      let to = leads b here in
      let beside = making_beside b.map of m known s.world to.2.step.w2 i b.machine.setting.root (nothing_free s.world m.stored known shown.blocks.roles)
      (λ x q made. no_table_word same hash name m known s old new at shown i b here to.0 told to.1 to.2 of x q made)
      new.changed (tells same hash name m known s old new at shown i b here to.0 told to.1 to.2 of) (left same hash name m known s old new at shown i b here to.0 told to.1 to.2 of) in (
        places_then same hash s old new i b to.0 to.2.step.w2 (with_effects None of (effects_of (Making b.map) known new.changed) m) (known_after (Making b.map) new.changed known) told to.3
            (places_stay None of (effects_of (Making b.map) known new.changed) m known (known_after (Making b.map) new.changed known) s.maps s.maps beside.0.0 beside.1 (λ n. same_maps (s.maps n)) lying),
        effects_leave_outside K V None of (effects_of (Making b.map) known new.changed) m beside.0.1 outside,
      )
