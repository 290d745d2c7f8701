-- What a step of a call that is none of a row does, and what is known after it, by the change of its map's tables that its operation tells.
use Rattle.std.specs.Prelude.{◌≡◌, ◌≢◌, ℕ, zero, suc, ◌+◌, ◌*◌, ◌<◌, ◌≤◌, Bool, true, false, cond, eqb, List, [], ◌∷◌, ◌++◌, Option}
use Rattle.std.proofs.Common.{refl, ap, sym, subst, ◌∙◌, arith, inl, inr}
use Rattle.std.proofs.lemmas.Bool.{ne_eqb, eq-eqb, cases_eq}
use Rattle.run_shows.specs.Given.SeizeWordsDeclared.at.At.{At}
use Rattle.run_shows.specs.Given.SeizeWordsDeclared.at.At.TheVariants.{Root}
use Rattle.run_shows.specs.Given.SeizeWordsMem.{Mem, value_at}
use Rattle.run_shows.specs.Given.SeizeWordsWord.{block_in}
use Rattle.run_shows.specs.Given.SeizeWorld.{World}
use Rattle.run_shows.specs.Given.RunsDeclared.shapes.TableShape.{TableShape}
use Rattle.run_shows.specs.Given.TablesChunks.{is_incremental}
use Rattle.run_shows.specs.Given.TablesDeclared.marks.TheConstants.{TOMBSTONE}
use Rattle.run_shows.specs.Given.TablesDeclared.node.Node.{Node}
use Rattle.run_shows.specs.Given.TablesDeclared.setting.Setting.{Setting}
use Rattle.run_shows.specs.Given.TablesDeclared.table_words.TheConstants.{PLACES}
use Rattle.run_shows.specs.Given.RunsDeclared.effect.Effect.{Effect}
use Rattle.run_shows.specs.Given.RunsDeclared.effect.Effect.TheVariants.{Copied, Stored, Replaced, Removed, Linked, Promoted}
use Rattle.run_shows.specs.Given.RunsDeclared.effect.Spot.{Spot}
use Rattle.run_shows.specs.Given.SchedulesMoment.{Moment}
use Rattle.run_shows.specs.Given.EffectsDeclared.changed.Changed.{Changed}
use Rattle.run_shows.specs.Given.EffectsDeclared.changed.Changed.TheVariants as changed
use Rattle.run_shows.specs.Given.TellsSeen.{Seen, Wrote}
use Rattle.run_shows.specs.Given.TellsTells.{place_at, last_link, IsSilent, new_word, IsSeenAs, IsObserved}
use Rattle.run_shows.specs.Given.RuleChart.{Phase, Still, Copying, Holds, Chart}
use Rattle.run_shows.specs.Given.RuleMoves.{Move, Links, Stores, Replaces, Removes, Marks, MarksBlocking, Skips, Unmarks, Puts, Covers, PutsLate, Claims, Reclaims, Counts, GivesUp, Aborts, Promotes, Announces, Allowed, after, without}
use Rattle.run_shows.specs.Given.RuleWords.{Blocks, byte_of, place_word}
use Rattle.run_shows.specs.Given.RuleMaps.{spot_of}
use Rattle.run_shows.specs.Given.RuleInWorld.{IsMapIn, Moved, StepSpec}
use Rattle.run_shows.proofs.Given.RuleMoves.Writes.{put_in_here}
use Rattle.run_shows.proofs.Given.RuleLaws.{words_name_pairs, bytes_are_few}
use Rattle.run_shows.proofs.Given.RuleWords.TablesSeen.{block_of_link}
use Rattle.run_shows.specs.Given.PointsSteps.{AreLawful}
use Rattle.run_shows.specs.Given.CallersSights.{Visible, seen_by, IsGrown, IsVisibility}
use Rattle.run_shows.specs.Given.CallersTogether.{in_slot}
use Rattle.run_shows.specs.Given.FinishesMaps.{Standing}
use Rattle.run_shows.specs.Given.EffectsEffects.{spot_at, placed, effects_of, known_after}
use Rattle.run_shows.specs.Given.EffectsKnown.{Known, with_pair, with_role}
use Rattle.run_shows.specs.Given.EffectsDeclared.acting.Acting.{Acting}
use Rattle.run_shows.specs.Given.EffectsDeclared.acting.Acting.TheVariants.{Call}
use Rattle.run_shows.specs.Given.EffectsDeclared.role.Role.{Role}
use Rattle.run_shows.specs.Given.EffectsDeclared.role.Role.TheVariants as role
use Rattle.run_shows.specs.Follows.Blocks.{RefinesBlocks}
use Rattle.run_shows.specs.Follows.Maps.{table_of, RefinesMap}
use Rattle.run_shows.proofs.Follows.Linked.{was_own as own_before}
use Rattle.run_shows.proofs.Follows.Operations.{LeavesBy}
use Rattle.run_shows.proofs.Follows.Stored.{inside, still_home, was_own}
use Rattle.run_shows.proofs.Follows.Writes.{Says, nothing_free, place_says, next_says, root_says}
use Rattle.run_places.specs.Spots.Spots.{spot_in}
use Rattle.run_places.proofs.Spots.Calm.{IsCalm, calm_done}

module _ {K V : Type 0} (same : K → K → Bool) (slot caller map : ℕ) (name : Option (List ℕ)) (number : ℕ → ℕ) (s : Standing K) (lawful : AreLawful same s.hash)
    (w : World (Node K V)) (sight : Visible) (is_sight : IsVisibility s.chart s.blocks sight) (is_map : IsMapIn same s.hash (in_slot s.setting slot) w s.chart (seen_by s.blocks sight))
    (m2 : Mem (Node K V)) (Told : World (Node K V) → Chart K → Blocks → Type 0)
    (went : StepSpec same s.hash (in_slot s.setting slot) caller w s.chart (seen_by s.blocks sight) m2 Told) (blocks2 : Blocks) (grown : IsGrown s.chart s.blocks went.blocks2 blocks2) (sights2 : ℕ → Visible)
    (m : Moment K V) (known : Known) (shown : RefinesMap map number s m known) (shown_blocks : RefinesBlocks m known w) where
  abbrev c : Chart K
  c = s.chart

  abbrev seen_blocks : Blocks
  seen_blocks = seen_by s.blocks sight

  abbrev setting : Setting
  setting = in_slot s.setting slot

  abbrev incremental : Bool
  incremental = is_incremental s.setting.mode

  abbrev its : Acting
  its = Call caller map

  -- a linked table is seen, and has its role
  table_role : (t : ℕ) → c.first ≤ t → t < c.past → known.roles (s.blocks.table t) ≡ role.Table (table_of map t) (c.len t)
  table_role t l made = shown.tables.roles t made (is_sight.tables t made (is_sight.linked t l made))

  free : known.roles 0 ≡ role.Free
  free = nothing_free w m.stored known shown_blocks.roles

  -- the block that the word of a pair names
  pair_named : (d : Chart K) (blocks : Blocks) (n : ℕ) (phase : Phase) (borrowed : Bool) → block_in (place_word s.hash d blocks (Holds n phase borrowed)) ≡ blocks.pair n
  pair_named d blocks n phase borrowed = words_name_pairs blocks.pair (λ x. byte_of s.hash (d.key x)) n phase borrowed (bytes_are_few s.hash lawful.fits (d.key n))

  -- a pair that a table names which is seen can be looked at, and has its role
  pair_seen : (t i n : ℕ) (phase : Phase) (borrowed : Bool) → t < c.past → sight.tables t ≡ true → c.place t i ≡ Holds n phase borrowed
      → (n < c.stored) × (sight.pairs n ≡ true) × (known.roles (s.blocks.pair n) ≡ role.Pair (number n))
  pair_seen t i n phase borrowed made seen held =
      let l = (is_map.map.rule.common.keyed t i n phase borrowed held).0 in
      let known_pair = is_sight.named t i n phase borrowed made seen held in
      (l, known_pair, shown.pairs.roles n l (is_sight.pairs n l known_pair))

  spot_is : (t i : ℕ) → spot_at (table_of map t) (i + PLACES) ≡ spot_in t i
  spot_is t i = ap (spot_in t) (omega arith)

  module _ (told : Changed) (left : LeavesBy w.memory m2 told) where
    abbrev effects : List Effect
    effects = effects_of its known told

    abbrev known2 : Known
    known2 = known_after its told known

    -- what was done, and what is known after it
    abbrev pub Did : List Effect → Known → Type 0
    Did e k = (effects ≡ e) × (known2 ≡ k)

    -- this pair, which was the caller's own, was stored there, after this was done
    abbrev pub DidStore : List Effect → ℕ → ℕ → Type 0
    DidStore first t i = (j : ℕ) × (b : ℕ) × (known.roles b ≡ role.OwnPair j) × (b ≡ went.blocks2.pair c.stored) × Did (first ++ Stored (known.stored + 1) (spot_in t i) ∷ []) (with_pair b known)

    -- by each change
    abbrev pub DidBy : Move K → Type 0
    DidBy (Links len limit) =
        (b : ℕ) × (known.roles b ≡ role.OwnTable c.past (record { len = len; limit = limit }))
        × Did (Linked (table_of map c.past) (record { len = len; limit = limit }) ∷ []) (with_role b (role.Table (table_of map c.past) len) known)
    DidBy (Stores t k j) = DidStore [] t (spot_of s.hash (c.len t) k j)
    DidBy (Replaces t i k) = (n : ℕ) × (borrowed : Bool) × (c.place t i ≡ Holds n Still borrowed) × DidStore (Replaced (number n) ∷ []) t i
    DidBy (Removes t i) = (n : ℕ) × (borrowed : Bool) × (c.place t i ≡ Holds n Still borrowed) × Did (Removed (number n) ∷ []) known
    DidBy (Puts by i t k j) = (n : ℕ) × (borrowed : Bool) × (c.place c.first i ≡ Holds n Copying borrowed) × (n < c.stored) × (sight.pairs n ≡ true) × Did (Copied (number n) (spot_in t (spot_of s.hash (c.len t) k j)) ∷ []) known
    DidBy (PutsLate t i n) = (n < c.stored) × (sight.pairs n ≡ true) × (sight.tables t ≡ true) × Did (Copied (number n) (spot_in t i) ∷ []) known
    DidBy (Promotes t) = Did (Promoted (table_of map t) ∷ []) known
    DidBy _ = IsCalm known effects known2

    -- and by a step that made none
    abbrev pub DidMoved : Moved same s.hash setting.mode caller c went.c2 → Type 0
    DidMoved (inl still) = IsCalm known effects known2
    DidMoved (inr made) = DidBy made.0

    by_told : (at : At) (old new : ℕ) → told ≡ changed.Wrote at old new → (e : List Effect) (k : Known) → Says its known at old new e k → Did e k
    by_told at old new is e k says = (ap (effects_of its known) is ∙ says.0, ap (λ (t : Changed). known_after its t known) is ∙ says.1)

    values : (at : At) (old new : ℕ) → told ≡ changed.Wrote at old new → (b : ℕ) → value_at m2 b ≡ value_at w.memory b
    values at old new e = (subst (LeavesBy w.memory m2) e left).2

    module _ (seen : Seen (Node K V)) (as_told : (at : At) (old new : ℕ) → seen ≡ Wrote at old new → told ≡ changed.Wrote at old new)
        (as_seen : (at : At) (old new : ℕ) → told ≡ changed.Wrote at old new → seen ≡ Wrote at old new) where
      calm : IsSilent setting c seen_blocks seen → IsCalm known effects known2
      calm quiet = calm_done same s.hash setting caller w c seen_blocks m2 Told went is_map map m.stored known shown_blocks.roles shown_blocks.once (λ t l seen. shown.tables.roles t l (is_sight.tables t l seen)) told left
          (λ at old new e. subst (IsSilent setting c seen_blocks) (as_seen at old new e) quiet)

      -- a pair is copied into an empty place of a table that is seen
      copied : (t i n : ℕ) (new : ℕ) → t < c.past → sight.tables t ≡ true → i < c.len t → block_in new ≡ s.blocks.pair n → known.roles (s.blocks.pair n) ≡ role.Pair (number n) → 0 < s.blocks.pair n
          → seen ≡ Wrote (place_at seen_blocks t i) 0 new → Did (Copied (number n) (spot_in t i) ∷ []) known
      copied t i n new made known_table within names is_pair some wrote =
          let done = by_told (place_at seen_blocks t i) 0 new (as_told (place_at seen_blocks t i) 0 new wrote) (Copied (number n) (spot_at (table_of map t) (i + PLACES)) ∷ []) known
          (place_says its known (s.blocks.table t) (table_of map t) (c.len t) (shown.tables.roles t made (is_sight.tables t made known_table)) 0 new (λ z. omega (arith, z, names, some))
          role.Free (role.Pair (number n)) free (ap known.roles names ∙ is_pair) i within) in
          (done.0 ∙ ap (λ (x : Spot). Copied (number n) x ∷ []) (spot_is t i), done.1)

      -- a link to a table that is new
      linked : (len limit : ℕ) → 0 < len → went.c2 ≡ after (spot_of s.hash) incremental (Links len limit) c
          → seen ≡ Wrote (last_link setting seen_blocks c.past) 0 (went.blocks2.table c.past * 2048) → DidBy (Links len limit)
      linked len limit some is wrote = by c.past refl
        where
          new : ℕ
          new = went.blocks2.table c.past * 2048

          shape : TableShape
          shape = record { len = len; limit = limit }

          at_now : At
          at_now = last_link setting seen_blocks c.past

          told_so : told ≡ changed.Wrote at_now 0 new
          told_so = as_told at_now 0 new wrote

          own_then : known.roles (block_in new) ≡ role.OwnTable c.past shape
          own_then = own_before same slot caller map name number s lawful w sight is_sight is_map m2 Told went blocks2 grown sights2 m known shown shown_blocks (values at_now 0 new told_so)
              (record { stored = ap (λ (x : Chart K). x.stored) is; current = λ n l. ap (λ (x : Chart K). x.current n) is })
              len limit some (ap (λ (x : Chart K). x.past) is) (ap (λ (x : Chart K). x.first) is)
              (ap (λ (x : Chart K). x.len c.past) is ∙ ap (λ (q : Bool). cond q len (c.len c.past)) (eq-eqb c.past c.past refl))
              (ap (λ (x : Chart K). x.limit c.past) is ∙ ap (λ (q : Bool). cond q limit (c.limit c.past)) (eq-eqb c.past c.past refl))
              (λ t l. (
                ap (λ (x : Chart K). x.len t) is ∙ ap (λ (q : Bool). cond q len (c.len t)) (ne_eqb t c.past (λ e. omega (arith, l, e))),
                ap (λ (x : Chart K). x.limit t) is ∙ ap (λ (q : Bool). cond q limit (c.limit t)) (ne_eqb t c.past (λ e. omega (arith, l, e))),
              ))
              (block_in new) (block_of_link (went.blocks2.table c.past))

          apart : block_in 0 ≢ block_in new
          apart z = (let one : role.Free ≡ role.OwnTable c.past shape = sym free ∙ ap known.roles z ∙ own_then in cc one)

          Told_at : At → Type 0
          Told_at at = Says its known at 0 new (Linked (table_of map c.past) shape ∷ []) (with_role (block_in new) (role.Table (table_of map c.past) len) known)

          says : (p : ℕ) → c.past ≡ p → Told_at (last_link setting seen_blocks p)
          says zero e = root_says its known setting.root 0 new apart role.Free (role.OwnTable c.past shape) free own_then
          says (suc t) e =
              next_says its known (s.blocks.table t) (table_of map t) (c.len t) (table_role t (let r = is_map.map.rule.common.rooted (omega (arith, e)) in omega (arith, r, e)) (omega (arith, e))) 0 new apart
              role.Free (role.OwnTable c.past shape) free own_then

          by : (p : ℕ) → c.past ≡ p → DidBy (Links len limit)
          by p e = (
            block_in new,
            own_then,
            by_told at_now 0 new told_so (Linked (table_of map c.past) shape ∷ []) (with_role (block_in new) (role.Table (table_of map c.past) len) known)
                (subst (λ (x : ℕ). Told_at (last_link setting seen_blocks x)) (sym e) (says p e)),
          )

      -- the root comes to a table behind it
      promoted : (t : ℕ) → c.first < t → t < c.past → seen ≡ Wrote (Root setting.root) (seen_blocks.table c.first * 2048) (seen_blocks.table t * 2048) → Did (Promoted (table_of map t) ∷ []) known
      promoted t ahead made wrote =
          by_told (Root setting.root) old new (as_told (Root setting.root) old new wrote) (Promoted (table_of map t) ∷ []) known
          (root_says its known setting.root old new apart (role.Table (table_of map c.first) (c.len c.first)) (role.Table (table_of map t) (c.len t))
          (ap known.roles (block_of_link (s.blocks.table c.first)) ∙ table_role c.first (omega arith) (omega (arith, ahead, made)))
          (ap known.roles (block_of_link (s.blocks.table t)) ∙ table_role t (omega (arith, ahead)) made))
        where
          old : ℕ
          old = s.blocks.table c.first * 2048

          new : ℕ
          new = s.blocks.table t * 2048

          apart : block_in old ≢ block_in new
          apart e =
              (let blocks_same : s.blocks.table c.first ≡ s.blocks.table t = sym (block_of_link (s.blocks.table c.first)) ∙ e ∙ block_of_link (s.blocks.table t) in
              let turns = is_map.map.shows.tables_apart c.first t (omega (arith, ahead, made)) made (is_sight.linked c.first (omega arith) (omega (arith, ahead, made))) (is_sight.linked t (omega (arith, ahead)) made) blocks_same in
              omega (arith, turns, ahead))

      -- the block of the pair that is new, where one was stored
      module _ (t i old : ℕ) (wrote : seen ≡ Wrote (place_at seen_blocks t i) old (new_word s.hash setting c seen_blocks went.c2 went.blocks2))
          (one_more : went.c2.stored ≡ suc c.stored) (fresh : went.c2.current c.stored ≡ true) where
        abbrev new : ℕ
        new = new_word s.hash setting c seen_blocks went.c2 went.blocks2

        names : block_in new ≡ went.blocks2.pair c.stored
        names = pair_named went.c2 went.blocks2 c.stored Still false

        own : (j : ℕ) × (known.roles (block_in new) ≡ role.OwnPair j)
        own = was_own same slot caller map name number s lawful w sight is_sight is_map m2 Told went blocks2 grown sights2 m known shown shown_blocks
            (values (place_at seen_blocks t i) old new (as_told (place_at seen_blocks t i) old new wrote)) one_more fresh (block_in new) names

        stored_in : (first : List Effect) (was : Role) → known.roles (block_in old) ≡ was → (was ≡ role.OwnPair own.0 → ⊥) → placed (spot_at (table_of map t) (i + PLACES)) known.stored was (role.OwnPair own.0) ≡ first ++ Stored (known.stored + 1) (spot_at (table_of map t) (i + PLACES)) ∷ []
            → c.first ≤ t → t < c.past → i < c.len t → DidStore first t i
        stored_in first was was_is other places home made within =
            let done = by_told (place_at seen_blocks t i) old new (as_told (place_at seen_blocks t i) old new wrote) (placed (spot_at (table_of map t) (i + PLACES)) known.stored was (role.OwnPair own.0)) (with_pair (block_in new) known)
            (place_says its known (s.blocks.table t) (table_of map t) (c.len t) (table_role t home made) old new (λ e. other (sym was_is ∙ ap known.roles e ∙ own.1)) was (role.OwnPair own.0) was_is own.1 i within) in
            (own.0, block_in new, own.1, names, (done.0 ∙ places ∙ ap (λ (x : Spot). first ++ Stored (known.stored + 1) x ∷ []) (spot_is t i), done.1))

      -- so each change that may be made does
      by_move : (move : Move K) → Allowed same (spot_of s.hash) incremental move c → went.c2 ≡ after (spot_of s.hash) incremental move c
          → IsSeenAs s.hash setting c seen_blocks went.c2 went.blocks2 move seen → DidBy move
      by_move (Links len limit) allowed is saw = linked len limit allowed.0 is saw
      by_move (Stores t k j) allowed is saw =
          stored_in t (spot_of s.hash (c.len t) k j) 0 saw (ap (λ (x : Chart K). x.stored) is) (ap (λ (x : Chart K). x.current c.stored) is ∙ new_there (without (spot_of s.hash) incremental (c.place t (spot_of s.hash (c.len t) k j)) c.current))
          [] role.Free free (λ e. cc e) refl allowed.1 allowed.0 (lawful.lawful.within (c.len t) j k (is_map.map.rule.common.lens t allowed.0).0)
        where
          new_there : (f : ℕ → Bool) → cond (eqb c.stored c.stored) true (f c.stored) ≡ true
          new_there f = ap (λ (q : Bool). cond q true (f c.stored)) (eq-eqb c.stored c.stored refl)
      by_move (Replaces t i k) allowed is (n, borrowed, held, wrote) = (
        n,
        borrowed,
        held,
        stored_in t i (place_word s.hash c seen_blocks (Holds n Still borrowed)) wrote (ap (λ (x : Chart K). x.stored) is) (ap (λ (x : Chart K). x.current c.stored) is ∙ new_there (without (spot_of s.hash) incremental (c.place t i) c.current))
            (Replaced (number n) ∷ []) (role.Pair (number n)) (ap known.roles (pair_named c seen_blocks n Still borrowed) ∙ (pair_seen t i n Still borrowed here.0 (is_sight.linked t home here.0) held).2) (λ e. cc e) refl home here.0 here.1,
      )
        where
          home : c.first ≤ t
          home = still_home same (spot_of s.hash) c t i n borrowed k held incremental is_map.map.rule allowed.1

          here : (t < c.past) × (i < c.len t)
          here = inside same (spot_of s.hash) c t i n borrowed k held incremental is_map.map.rule

          new_there : (f : ℕ → Bool) → cond (eqb c.stored c.stored) true (f c.stored) ≡ true
          new_there f = ap (λ (q : Bool). cond q true (f c.stored)) (eq-eqb c.stored c.stored refl)
      by_move (Removes t i) (k, still, may) is (n, borrowed, held, wrote) = (n, borrowed, held, removed)
        where
          home : c.first ≤ t
          home = still_home same (spot_of s.hash) c t i n borrowed k held incremental is_map.map.rule may

          here : (t < c.past) × (i < c.len t)
          here = inside same (spot_of s.hash) c t i n borrowed k held incremental is_map.map.rule

          held_word : ℕ
          held_word = place_word s.hash c seen_blocks (Holds n Still borrowed)

          was_pair : known.roles (block_in held_word) ≡ role.Pair (number n)
          was_pair = ap known.roles (pair_named c seen_blocks n Still borrowed) ∙ (pair_seen t i n Still borrowed here.0 (is_sight.linked t home here.0) held).2

          removed : Did (Removed (number n) ∷ []) known
          removed = by_told (place_at seen_blocks t i) held_word TOMBSTONE (as_told (place_at seen_blocks t i) held_word TOMBSTONE wrote) (Removed (number n) ∷ []) known
              (place_says its known (s.blocks.table t) (table_of map t) (c.len t) (table_role t home here.0) held_word TOMBSTONE
              (λ e. (let one : role.Pair (number n) ≡ role.Free = sym was_pair ∙ ap known.roles e ∙ free in cc one)) (role.Pair (number n)) role.Free was_pair free i here.1)
      by_move (Puts i place t k j) allowed is (n, borrowed, held, wrote) =
          let root_made : c.first < c.past = let a = allowed.0 in let b = allowed.1 in omega (arith, a, b) in
          let root_seen = is_sight.linked c.first (omega arith) root_made in
          let here = pair_seen c.first place n Copying borrowed root_made root_seen held in
          let t_seen = is_sight.linked t (let a = allowed.0 in omega (arith, a)) allowed.1 in (
            n,
            borrowed,
            held,
            here.0,
            here.1,
            copied t (spot_of s.hash (c.len t) k j) n (place_word s.hash went.c2 went.blocks2 (Holds n Still (is_incremental setting.mode))) allowed.1 t_seen
                (lawful.lawful.within (c.len t) j k (is_map.map.rule.common.lens t allowed.1).0)
                (pair_named went.c2 went.blocks2 n Still (is_incremental setting.mode) ∙ (went.blocks_same.pairs n here.0 here.1).0) here.2 (is_map.map.shows.pair_numbers n here.0 here.1).0 wrote,
          )
      by_move (PutsLate t i n) allowed is wrote =
          let made : t < c.past = (let r = root_before in let a = allowed.1 in omega (arith, r, a)) in
          let t_seen = late_seen made in
          let t_then = went.blocks_same.tables t made t_seen in
          let known_then = went.map.map.shows.named t i n Still false (subst (λ (x : ℕ). t < x) (sym (ap (λ (x : Chart K). x.past) is)) made) t_then.1 holds_then in
          let known_pair = went.blocks_same.pairs_back n allowed.5 known_then in (
            allowed.5,
            known_pair,
            t_seen,
            copied t i n (place_word s.hash went.c2 went.blocks2 (Holds n Still false)) made t_seen allowed.2
                (pair_named went.c2 went.blocks2 n Still false ∙ (went.blocks_same.pairs n allowed.5 known_pair).0) (shown.pairs.roles n allowed.5 (is_sight.pairs n allowed.5 known_pair))
                (is_map.map.shows.pair_numbers n allowed.5 known_pair).0 wrote,
          )
        where
          root_before : c.first ≤ c.past
          root_before = elim (cases_eq c.past 0) as (λ _. c.first ≤ c.past) [
            | inl none ↦ (let r = is_map.map.rule.common.rootless none in omega (arith, r))
            | inr any ↦ (let r = is_map.map.rule.common.rooted (omega (arith, any)) in omega (arith, r))
          ]

          holds_then : went.c2.place t i ≡ Holds n Still false
          holds_then = ap (λ (x : Chart K). x.place t i) is ∙ put_in_here c.place t i (Holds n Still false)

          late_seen : t < c.past → sight.tables t ≡ true
          late_seen made = by (sight.tables t) refl
            where
              by : (q : Bool) → sight.tables t ≡ q → sight.tables t ≡ true
              by true e = e
              by false e = absurd (let kept = (went.tables t made (λ k. cc (e, k))).0 i in let empty = allowed.4 in cc (kept, holds_then, empty))
      by_move (Promotes t) allowed is saw = promoted t allowed.0 allowed.1 saw
      by_move (Marks i place) allowed is saw = calm saw
      by_move (MarksBlocking place) allowed is saw = calm saw
      by_move (Skips i t place) allowed is saw = calm saw
      by_move (Unmarks i place) allowed is saw = calm saw
      by_move (Covers i place) allowed is saw = calm saw
      by_move (Claims i t chunk) allowed is saw = calm saw
      by_move (Reclaims t claim) allowed is saw = calm saw
      by_move (Counts i t many) allowed is saw = calm saw
      by_move (GivesUp i t) allowed is saw = calm saw
      by_move (Aborts t) allowed is saw = calm saw
      by_move (Announces t) allowed is saw = calm saw

      -- so does a step, whichever it made
      pub did_moved : IsObserved s.hash setting c seen_blocks went.c2 went.blocks2 same caller went.moved seen → DidMoved went.moved
      did_moved saw = by went.moved saw
        where
          by : (moved : Moved same s.hash setting.mode caller c went.c2) → IsObserved s.hash setting c seen_blocks went.c2 went.blocks2 same caller moved seen → DidMoved moved
          by (inl still) quiet = calm quiet
          by (inr made) saw = by_move made.0 made.1 made.2 saw
