-- A row within a call hands over what has left its map.
use Rattle.std.specs.Prelude.{◌&&◌, ◌≡◌, ℕ, zero, suc, ◌<◌, ◌==◌, ◌/◌, nat_lt, Bool, true, false, List, [], ◌∷◌, Some, None, if◌then◌else◌, ◌⊎◌}
use Rattle.std.proofs.Common.{refl, ap, sym, subst, ◌∙◌, arith, inl, inr}
use Rattle.std.proofs.lemmas.Bool.{eq-eqb, cases_lt}
use Rattle.run_shows.specs.Given.SeizeWordsDeclared.at.At.{At}
use Rattle.run_shows.specs.Given.SeizeWordsDeclared.at.At.TheVariants.{Root, Used, Slot, Entry, Word}
use Rattle.run_shows.specs.Given.SeizeWordsMem.{Mem, value_at, word_at}
use Rattle.run_shows.specs.Given.SeizeWordsWord.{block_in}
use Rattle.run_shows.specs.Given.SeizeDeclared.states.TheConstants.{FIRST}
use Rattle.run_shows.specs.Given.SeizeWorld.{World, Hand, NoBlock, Making, InUse, Parting, Cutting, Handed, LeftTo, Request, Register', Enter', Leave', LeaveOwned, Refresh, Unregister', Retire, Flush, Defer', Begin, Steps', Happens, times}
use Rattle.run_shows.specs.Given.SeizeSequence.{taken_in}
use Rattle.run_shows.proofs.Given.SeizeAloneHistories.NotTaken.{did, taken_gone}
use Rattle.run_shows.proofs.Given.SeizeAloneHistories.Reached.{Reached}
use Rattle.run_shows.proofs.Given.SeizeAloneSpared.Rows.{RowStepped}
use Rattle.run_shows.proofs.Given.SeizeRuleRows.Effects.{hand_kept}
use Rattle.run_shows.proofs.Given.SeizeMovesState.Ghost.{Life}
use Rattle.run_shows.proofs.Given.SeizeRulePoints.Aside.{is_handed, HandFits}
use Rattle.run_shows.proofs.Given.RuleWorld.Hands.{at_cases}
use Rattle.run_shows.specs.Given.RuleInWorld.{IsHeldBy}
use Rattle.run_shows.specs.Given.TablesNodes.{deferred_word}
use Rattle.run_shows.specs.Given.TablesDeclared.node.Node.{Node}
use Rattle.run_shows.specs.Given.TablesDeclared.setting.Setting.{Setting}
use Rattle.run_shows.specs.Given.TablesDeclared.table_words.TheConstants.{NEXT, DEFERRED}
use Rattle.run_shows.specs.Given.RunsDeclared.effect.Effect.{Effect}
use Rattle.run_shows.specs.Given.RunsDeclared.effect.Effect.TheVariants as effect
use Rattle.run_shows.specs.Given.RunsDeclared.effect.Growth.TheVariants.{ABlock, ABucket}
use Rattle.run_shows.specs.Given.RunsDeclared.effect.Spot.{Spot}
use Rattle.run_shows.specs.Given.RunsDeclared.effect.TableId.{TableId}
use Rattle.run_shows.specs.Given.RunsDeclared.effect.Thing.TheVariants.{APair, ATable}
use Rattle.run_shows.specs.Given.SchedulesMoment.{MapThere, Moment}
use Rattle.run_shows.specs.Given.SchedulesViews.{is_in_a_map, map_at}
use Rattle.run_shows.specs.Given.EffectsDeclared.changed.Changed.{Changed}
use Rattle.run_shows.specs.Given.EffectsDeclared.changed.Changed.TheVariants as changed
use Rattle.run_shows.specs.Given.EffectsDeclared.changed.Kind.{Kind}
use Rattle.run_shows.specs.Given.EffectsDeclared.changed.Kind.TheVariants as kind
use Rattle.run_shows.specs.Given.CallersTogether.{CameAbout, HandsOver, IsOneStep}
use Rattle.run_shows.proofs.Given.CallersTogether.Came.{came_reached, came_next}
use Rattle.run_shows.specs.Given.EffectsEffects.{made_by, taken_by, names_same, followed_by, led_to, carried, placed, spot_at, is_place, in_table, in_block, batched, named, written_by, effects_of}
use Rattle.run_shows.specs.Given.EffectsKnown.{Known}
use Rattle.run_shows.specs.Given.EffectsDeclared.acting.Acting.{Acting}
use Rattle.run_shows.specs.Given.EffectsDeclared.acting.Acting.TheVariants as acts
use Rattle.run_shows.specs.Given.EffectsDeclared.role.Role.{Role}
use Rattle.run_shows.specs.Given.EffectsDeclared.role.Role.TheVariants as role
use Rattle.run_shows.specs.Follows.Steps.{HandTheirs}
use Rattle.run_shows.proofs.Follows.Operations.{LeavesBy}
use Rattle.run_places.specs.Hands.Hands.{IsInUse, RefinesHands}
use Rattle.run_places.proofs.Hands.Handing.{IsHanding, IsHandingRow, HandsOne, row_hands}
use Rattle.run_shows.specs.Scenes.Scene.{Scene}

-- what is on its way to the collector is in use nowhere
on_way_out : (h : Hand) (l : Life) → HandFits h l → is_handed l ≡ true → IsInUse h → ⊥
on_way_out NoBlock l fits way used = used
on_way_out (Making i) l fits way used = used
on_way_out (InUse o) l fits way used = (let no : is_handed l ≡ false = ap is_handed fits in cc (no, way))
on_way_out (Parting i) l fits way used = used
on_way_out (Cutting i) l fits way used = used
on_way_out Handed l fits way used = used
on_way_out (LeftTo i) l fits way used = (let no : is_handed l ≡ false = ap is_handed fits in cc (no, way))

held_out : (i : ℕ) (h : Hand) → IsHeldBy i h → IsInUse h → ⊥
held_out i NoBlock held used = used
held_out i (Making j) held used = used
held_out i (InUse o) held used = held
held_out i (Parting j) held used = used
held_out i (Cutting j) held used = used
held_out i Handed held used = used
held_out i (LeftTo j) held used = held

-- that which the word is of, or names, is in use nowhere
abbrev pub IsOut : {T : Type 0} → World T → At → ℕ → Type 0
IsOut w (Entry b f) new = IsInUse (w.hand b) → ⊥
IsOut w (Word b f) new = IsInUse (w.hand (new / 2048)) → ⊥
IsOut w _ new = ⊥

module _ {K V : Type 0} (setting : Setting) (i : ℕ) (w w2 : World (Node K V)) (came : CameAbout setting.batch_size w) where
  step_out : (v : World (Node K V)) → CameAbout setting.batch_size v → ((b : ℕ) → value_at w2.memory b ≡ value_at v.memory b) → IsHandingRow (v.row i) → Steps' deferred_word i (v.row i) v w2
      → (x : At) → IsHanding x → (old new : ℕ) → word_at v.memory x ≡ Some old → word_at w2.memory x ≡ Some new → (new ≡ old) ⊎ IsOut v x new
  step_out v came_v same handing step x hands old new was is =
      by x (row_hands deferred_word setting.batch_size v w2 reached i same x hands old new was is (v.row i) refl handing step)
    where
      reached : Reached deferred_word setting.batch_size v
      reached = came_reached setting.batch_size v came_v

      by : (y : At) → (new ≡ old) ⊎ HandsOne deferred_word setting.batch_size v w2 reached i same y new → (new ≡ old) ⊎ IsOut v y new
      by y (inl e) = inl e
      by (Root r) (inr h) = absurd h
      by (Used r) (inr h) = absurd h
      by (Slot s f) (inr h) = absurd h
      by (Entry b f) (inr h) = inr (on_way_out (v.hand b) (reached.good.state.life b) (reached.good.hands b) h)
      by (Word b f) (inr h) = inr (on_way_out (v.hand (new / 2048)) (reached.good.state.life (new / 2048)) (reached.good.hands (new / 2048)) h)

  -- where a row begins, what is in use is so still
  pub record Began (begun : World (Node K V)) : Type 0 where
    pub memory : begun.memory ≡ w.memory
    pub used : (b : ℕ) → IsInUse (w.hand b) → IsInUse (begun.hand b)
    pub row : IsHandingRow (begun.row i)

  begun_so : (begun : World (Node K V)) (request : Request) → HandsOver setting i w request → Happens deferred_word setting.batch_size (Begin i request) w begun → Began begun
  begun_so begun (Retire s b) hands h =
      let is = h.1.2 in record {
        memory = ap (λ (x : World (Node K V)). x.memory) is;
        used = λ x used. subst (λ (y : World (Node K V)). IsInUse (y.hand x)) (sym is)
            (at_cases IsInUse w.hand b Handed x (λ e. absurd (held_out i (w.hand b) hands.1 (subst (λ (z : ℕ). IsInUse (w.hand z)) e used))) (λ ne. used));
        row = subst (λ (y : World (Node K V)). IsHandingRow (y.row i)) (sym is) (at_cases IsHandingRow w.row i _ i (λ e. tt) (λ ne. absurd (ne refl)));
      }
  begun_so begun (Defer' s b t) hands h =
      let is = h.1.7 in record {
        memory = ap (λ (x : World (Node K V)). x.memory) is;
        used = λ x used. subst (λ (y : World (Node K V)). IsInUse (y.hand x)) (sym is)
            (at_cases IsInUse w.hand b Handed x (λ e. absurd (held_out i (w.hand b) hands.1 (subst (λ (z : ℕ). IsInUse (w.hand z)) e used))) (λ ne. used));
        row = subst (λ (y : World (Node K V)). IsHandingRow (y.row i)) (sym is) (at_cases IsHandingRow w.row i _ i (λ e. tt) (λ ne. absurd (ne refl)));
      }
  begun_so begun (Register' enters) hands h = absurd hands
  begun_so begun (Enter' s) hands h = absurd hands
  begun_so begun (Leave' s) hands h = absurd hands
  begun_so begun (LeaveOwned s) hands h = absurd hands
  begun_so begun (Refresh s) hands h = absurd hands
  begun_so begun (Unregister' s) hands h = absurd hands
  begun_so begun (Flush s) hands h = absurd hands

  -- so it is for a step of a row within a call, whether it has begun before or begins with it
  pub hands_out : IsHandingRow (w.row i) → IsOneStep setting i w w2 → ((b : ℕ) → value_at w2.memory b ≡ value_at w.memory b) → (x : At) → IsHanding x → (old new : ℕ) → word_at w.memory x ≡ Some old → word_at w2.memory x ≡ Some new → (new ≡ old) ⊎ IsOut w x new
  hands_out row (inl step) values x hands old new was is = step_out w came values row step x hands old new was is
  hands_out row (inr (request, begun, over, begins, step)) values x hands old new was is =
      by x (step_out begun (came_next setting.batch_size w begun (Begin i request) came begins) (λ b. values b ∙ ap (λ (n : Mem (Node K V)). value_at n b) (sym b0.memory)) b0.row step x hands old new
      (ap (λ (n : Mem (Node K V)). word_at n x) b0.memory ∙ was) is)
    where
      b0 : Began begun
      b0 = begun_so begun request over begins

      by : (y : At) → (new ≡ old) ⊎ IsOut begun y new → (new ≡ old) ⊎ IsOut w y new
      by y (inl e) = inl e
      by (Root r) (inr h) = absurd h
      by (Used r) (inr h) = absurd h
      by (Slot s f) (inr h) = absurd h
      by (Entry b f) (inr h) = inr (λ used. h (b0.used b used))
      by (Word b f) (inr h) = inr (λ used. h (b0.used (new / 2048) used))

module _ {K V : Type 0} (setting : Setting) (i : ℕ) (w w2 : World (Node K V)) (came : CameAbout setting.batch_size w) (b : ℕ) (there : value_at w2.memory b ≡ None → ⊥) where
  used_by : (v : World (Node K V)) → CameAbout setting.batch_size v → Steps' deferred_word i (v.row i) v w2 → IsInUse (v.hand b) → IsInUse (w2.hand b)
  used_by v came_v step used = by (times b (taken_in it.effects)) refl
    where
      reached : Reached deferred_word setting.batch_size v
      reached = came_reached setting.batch_size v came_v

      it : RowStepped deferred_word i v w2
      it = did deferred_word setting.batch_size v reached i w2 step

      by : (n : ℕ) → times b (taken_in it.effects) ≡ n → IsInUse (w2.hand b)
      by zero e = subst IsInUse (sym (ap (λ (h : ℕ → Hand). h b) it.hands ∙ hand_kept b it.effects v.hand e it.one)) used
      by (suc n) e = absurd (there (taken_gone deferred_word setting.batch_size v reached i w2 step b (λ z. omega (arith, e, z))))

  -- what is in use, and is there, is so after a step of a row within a call
  pub used_on : IsOneStep setting i w w2 → IsInUse (w.hand b) → IsInUse (w2.hand b)
  used_on (inl step) used = used_by w came step used
  used_on (inr (request, begun, over, begins, step)) used =
      used_by begun (came_next setting.batch_size w begun (Begin i request) came begins) step ((begun_so setting i w w2 came begun request over begins).used b used)

module _ {K V : Type 0} (name : List ℕ) (caller map : ℕ) (m : Moment K V) (known : Known) (s : Scene K V) (hands : RefinesHands m known s) where
  abbrev its : Acting
  its = acts.Call caller map

  abbrev Left : List Effect → Type 0
  Left effects = HandTheirs name map effects m

  left_if : (q : Bool) (a b : List Effect) → (q ≡ true → Left a) → (q ≡ false → Left b) → Left (if q then a else b)
  left_if true a b h k = h refl
  left_if false a b h k = k refl

  pair_left : (b n : ℕ) → known.roles b ≡ role.Pair n → (IsInUse (s.world.hand b) → ⊥) → is_in_a_map (m.place n) ≡ false
  pair_left b n is out = by (is_in_a_map (m.place n)) refl
    where
      by : (q : Bool) → is_in_a_map (m.place n) ≡ q → is_in_a_map (m.place n) ≡ false
      by true e = absurd (out (hands.pairs b n is e))
      by false e = e

  table_left : (b len : ℕ) (t : TableId) → known.roles b ≡ role.Table t len → (IsInUse (s.world.hand b) → ⊥) → (there : MapThere) → map_at t.map m ≡ Some there → t.turn < there.first
  table_left b len t is out there at = elim (cases_lt t.turn there.first) as (λ _. t.turn < there.first) [
    | inl less ↦ less
    | inr more ↦ absurd (out (hands.tables b len t there is at more))
  ]

  followed_left : (is : Role) → Left (followed_by its is)
  followed_left role.Free = tt
  followed_left (role.OwnPair j) = tt
  followed_left (role.OwnTable turn shape) = (tt, tt)
  followed_left (role.Pair n) = tt
  followed_left (role.Table t len) = tt
  followed_left (role.Counter of) = tt

  led_left : (was is : Role) → Left (led_to its was is)
  led_left _ (role.OwnTable turn shape) = (tt, tt)
  led_left (role.Table t len) (role.Table u other) = (tt, tt)
  led_left _ _ = tt

  placed_left : (x : Spot) (stored : ℕ) (was is : Role) → Left (placed x stored was is)
  placed_left x stored (role.Pair n) (role.OwnPair j) = (tt, (tt, tt))
  placed_left x stored _ (role.OwnPair j) = (tt, tt)
  placed_left x stored (role.Pair n) role.Free = (tt, tt)
  placed_left x stored role.Free (role.Pair n) = (tt, tt)
  placed_left x stored _ _ = tt

  carried_left : (t : TableId) (b : ℕ) → (IsInUse (s.world.hand b) → ⊥) → (r : Role) → known.roles b ≡ r → Left (carried t r)
  carried_left t b out role.Free e = tt
  carried_left t b out (role.OwnPair j) e = tt
  carried_left t b out (role.OwnTable turn shape) e = tt
  carried_left t b out (role.Pair n) e = (pair_left b n e out, tt)
  carried_left t b out (role.Table u len) e = tt
  carried_left t b out (role.Counter of) e = tt

  batched_left : (b field : ℕ) → (field ≡ FIRST → IsInUse (s.world.hand b) → ⊥) → (r : Role) → known.roles b ≡ r → Left (batched its field r)
  batched_left b field out role.Free e = tt
  batched_left b field out (role.OwnPair j) e = tt
  batched_left b field out (role.OwnTable turn shape) e = tt
  batched_left b field out (role.Pair n) e = left_if (field == FIRST) (effect.Retired (APair n) ∷ []) [] (λ q. (pair_left b n e (out (grind (arith, q))), tt)) (λ q. tt)
  batched_left b field out (role.Table t len) e = left_if (field == FIRST) (effect.Retired (ATable t) ∷ []) [] (λ q. (table_left b len t e (out (grind (arith, q))), tt)) (λ q. tt)
  batched_left b field out (role.Counter of) e = tt

  -- a word of a block's own, that goes on naming the same block, or names one that is in use nowhere
  block_left : (r : Role) (field stored : ℕ) (q : Bool) (was : Role) (b : ℕ) → (q ≡ false → field ≡ DEFERRED → IsInUse (s.world.hand b) → ⊥) → Left (in_block its r field stored q was (known.roles b))
  block_left role.Free field stored q was b out = tt
  block_left (role.OwnPair j) field stored q was b out = tt
  block_left (role.OwnTable turn shape) field stored q was b out = tt
  block_left (role.Pair n) field stored q was b out = tt
  block_left (role.Counter of) field stored q was b out = (tt, tt)
  block_left (role.Table t len) field stored q was b out =
      left_if q [] (in_table its t len field stored was (known.roles b)) (λ e. tt) (λ differs.
      left_if (field == NEXT) (followed_by its (known.roles b)) (if field == DEFERRED then carried t (known.roles b) else (if is_place len field then placed (spot_at t field) stored was (known.roles b) else []))
      (λ e. followed_left (known.roles b)) (λ e.
      left_if (field == DEFERRED) (carried t (known.roles b)) (if is_place len field then placed (spot_at t field) stored was (known.roles b) else [])
      (λ e. carried_left t b (out differs (grind (arith, e))) (known.roles b) refl) (λ e.
      left_if (is_place len field) (placed (spot_at t field) stored was (known.roles b)) [] (λ e. placed_left (spot_at t field) stored was (known.roles b)) (λ e. tt))))

  made_left : (k : Kind) → Left (effect.Asked ABlock ∷ made_by its k)
  made_left kind.Pair = (tt, (tt, tt))
  made_left (kind.Table len limit turn) = (tt, (tt, tt))
  made_left kind.Shards = (tt, tt)

  taken_left : (r : Role) → Left (taken_by its r)
  taken_left role.Free = tt
  taken_left (role.OwnPair j) = (tt, tt)
  taken_left (role.OwnTable turn shape) = (tt, tt)
  taken_left (role.Pair n) = (tt, tt)
  taken_left (role.Table t len) = (tt, tt)
  taken_left (role.Counter of) = tt

  module _ (w2 : World (Node K V)) (out : ((b : ℕ) → value_at w2.memory b ≡ value_at s.world.memory b) → (x : At) → IsHanding x → (old new : ℕ) → word_at s.world.memory x ≡ Some old → word_at w2.memory x ≡ Some new → (new ≡ old) ⊎ IsOut s.world x new) where
    -- words that name other blocks are others
    differ : (old new : ℕ) → names_same old new ≡ false → new ≡ old → ⊥
    differ old new e same = let yes = eq-eqb (block_in old) (block_in new) (ap block_in (sym same)) in cc (yes, e)

    written_left : ((b : ℕ) → value_at w2.memory b ≡ value_at s.world.memory b) → (x : At) (old new : ℕ) → word_at s.world.memory x ≡ Some old → word_at w2.memory x ≡ Some new → Left (written_by its known x old new)
    written_left values (Root r) old new was is = left_if (names_same old new) [] (led_to its (named known old) (named known new)) (λ e. tt) (λ e. led_left (named known old) (named known new))
    written_left values (Used r) old new was is = tt
    written_left values (Slot t field) old new was is = tt
    written_left values (Entry b field) old new was is =
        left_if (names_same old new) [] (batched its field (known.roles b)) (λ e. tt) (λ e.
        batched_left b field (λ first used. elim (out values (Entry b field) first old new was is) as (λ _. ⊥) [ inl same ↦ differ old new e same | inr h ↦ h used ]) (known.roles b) refl)
    written_left values (Word b field) old new was is =
        block_left (known.roles b) field known.stored (names_same old new) (named known old) (block_in new)
        (λ e list used. elim (out values (Word b field) tt old new was is) as (λ _. ⊥) [ inl same ↦ differ old new e same | inr h ↦ h used ])

    -- so all that it hands over has left its map
    pub all_left : (told : Changed) → LeavesBy s.world.memory w2.memory told → Left (effects_of its known told)
    all_left changed.Nothing left = tt
    all_left (changed.Wrote x old new) left = written_left left.2 x old new left.0 left.1
    all_left (changed.Made k b) left = made_left k
    all_left (changed.Unmade k) left = (tt, tt)
    all_left (changed.Took b) left = taken_left (known.roles b)
    all_left (changed.Roomed bucket had) left = left_if (had && nat_lt bucket known.buckets) [] (effect.Asked ABucket ∷ []) (λ e. tt) (λ e. (tt, tt))
