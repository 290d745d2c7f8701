-- Where the pairs of the map lie on which a call takes a step that is none of a row.
use Rattle.std.specs.Prelude.{◌≡◌, ◌≢◌, ℕ, suc, ◌+◌, ◌<◌, ◌≤◌, Bool, true, false, cond, List, [], ◌∷◌, length, Option, Some, if◌then◌else◌}
use Rattle.std.proofs.Common.{refl, ap, sym, subst, ◌∙◌, arith, inl, inr}
use Rattle.std.proofs.lemmas.Bool.{eq-eqb, cases_eq, cases_lt}
use Rattle.run_shows.specs.Given.SeizeWordsMem.{Mem}
use Rattle.run_shows.specs.Given.SeizeWorld.{World}
use Rattle.run_shows.specs.Given.TablesChunks.{is_incremental}
use Rattle.run_shows.specs.Given.TablesDeclared.node.Node.{Node}
use Rattle.run_shows.specs.Given.TablesDeclared.status.TheConstants.Status.{ABORTED}
use Rattle.run_shows.specs.Given.RunsDeclared.effect.Effect.{Effect}
use Rattle.run_shows.specs.Given.RunsDeclared.effect.Effect.TheVariants.{Copied, Stored, Replaced, Promoted}
use Rattle.run_shows.specs.Given.RunsDeclared.effect.Spot.{Spot}
use Rattle.run_shows.specs.Given.RunsDeclared.effect.TableId.{TableId}
use Rattle.run_shows.specs.Given.SchedulesEffects.{later, is_chunked, spot_by, with_effects}
use Rattle.run_shows.specs.Given.SchedulesLists.{put}
use Rattle.run_shows.specs.Given.SchedulesMoment.{Moment}
use Rattle.run_shows.specs.Given.EffectsDeclared.changed.Changed.{Changed}
use Rattle.run_shows.specs.Given.RuleChart.{Still, Copying, Holds, Chart, put_in}
use Rattle.run_shows.specs.Given.RuleMoments.{Moments}
use Rattle.run_shows.specs.Given.RuleRule.{Rule}
use Rattle.run_shows.specs.Given.RuleMoves.{Move, Links, Stores, Replaces, Removes, Marks, MarksBlocking, Skips, Unmarks, Puts, Covers, PutsLate, Claims, Reclaims, Counts, GivesUp, Aborts, Promotes, Announces, Allowed, after}
use Rattle.run_shows.specs.Given.RuleWords.{Blocks}
use Rattle.run_shows.specs.Given.RuleMaps.{spot_of}
use Rattle.run_shows.specs.Given.RuleInWorld.{IsMapIn, Moved, StepSpec}
use Rattle.run_shows.specs.Given.PointsSteps.{AreLawful}
use Rattle.run_shows.specs.Given.CallersSights.{Visible, seen_by, IsGrown, IsVisibility}
use Rattle.run_shows.specs.Given.CallersTogether.{in_slot}
use Rattle.run_shows.specs.Given.FinishesMaps.{Standing}
use Rattle.run_shows.specs.Given.EffectsEffects.{effects_of, known_after}
use Rattle.run_shows.specs.Given.EffectsKnown.{Known, with_pair, with_role}
use Rattle.run_shows.specs.Given.EffectsDeclared.acting.Acting.TheVariants.{Call}
use Rattle.run_shows.specs.Given.EffectsDeclared.role.Role.{Role}
use Rattle.run_shows.specs.Given.EffectsDeclared.role.Role.TheVariants as role
use Rattle.run_shows.specs.Follows.Blocks.{RefinesBlocks}
use Rattle.run_shows.specs.Follows.Maps.{table_of, RefinesMap}
use Rattle.run_shows.proofs.Follows.Alike.{put_here, put_elsewhere}
use Rattle.run_shows.proofs.Follows.Finds.{chunks_are}
use Rattle.run_shows.proofs.Follows.Onward.{IsLasting, KeepsRoles}
use Rattle.run_shows.proofs.Follows.Operations.{LeavesBy}
use Rattle.run_shows.proofs.Follows.Stored.{in_root, still_home}
use Rattle.run_places.specs.Spots.Spots.{ThePair, named_by, spot_in, IsPairOf, RefinesSpots}
use Rattle.run_places.proofs.Spots.Born.{born_move, whole_move}
use Rattle.run_places.proofs.Spots.Copies.{alone, new_lies, new_copied}
use Rattle.run_places.proofs.Spots.Calm.{IsCalm}
use Rattle.run_places.proofs.Spots.Done.{Did, DidBy, DidMoved}
use Rattle.run_places.proofs.Spots.Effects.{AllAside, AreAside, aside_all, calm_aside, spot_copied, spot_copied_other, spot_promoted}
use Rattle.run_places.proofs.Spots.Lies.{Lies, plain_lies, put_lies, late_lies, promote_lies}
use Rattle.run_places.proofs.Spots.Moves.{Spares, keeps_move, named_stored}
use Rattle.run_places.proofs.Spots.Names.{other_pair}

-- what was linked keeps its role where a block of a caller's own gets one
pub keeps_put : (known : Known) (b : ℕ) (r : Role) → (IsLasting (known.roles b) → ⊥) → KeepsRoles known (with_role b r known)
keeps_put known b r none x lasting = put_elsewhere b r known.roles x (λ e. none (subst (λ (y : ℕ). IsLasting (known.roles y)) e lasting))

pub keeps_pair : (known : Known) (b : ℕ) → (IsLasting (known.roles b) → ⊥) → KeepsRoles known (with_pair b known)
keeps_pair known b none x lasting = put_elsewhere b (role.Pair (known.stored + 1)) known.roles x (λ e. none (subst (λ (y : ℕ). IsLasting (known.roles y)) e lasting))

module _ {K V : Type 0} (same : K → K → Bool) (slot caller map : ℕ) (name : Option (List ℕ)) (number : ℕ → ℕ) (s : Standing K) (lawful : AreLawful same s.hash)
    (w : World (Node K V)) (sight : Visible) (is_sight : IsVisibility s.chart s.blocks sight) (is_map : IsMapIn same s.hash (in_slot s.setting slot) w s.chart (seen_by s.blocks sight))
    (m2 : Mem (Node K V)) (Told : World (Node K V) → Chart K → Blocks → Type 0)
    (went : StepSpec same s.hash (in_slot s.setting slot) caller w s.chart (seen_by s.blocks sight) m2 Told) (blocks2 : Blocks) (grown : IsGrown s.chart s.blocks went.blocks2 blocks2) (sights2 : ℕ → Visible)
    (m : Moment K V) (known : Known) (shown : RefinesMap map number s m known) (shown_blocks : RefinesBlocks m known w)
    (moments : Moments (is_incremental s.setting.mode) s.chart) (lying : RefinesSpots s m known) (fresh : (k : ℕ) → length m.stored < k → m.copy k ≡ spot_in 0 0)
    (there : (n : ℕ) → s.chart.current n ≡ true → (n < s.chart.stored) × (s.blocks.pair_known n ≡ true)) where
  abbrev c : Chart K
  c = s.chart

  abbrev q : Bool
  q = is_incremental s.setting.mode

  abbrev s2 : Standing K
  s2 = record s { chart = went.c2; blocks = blocks2; sights = sights2 }

  abbrev rule : Rule same (spot_of s.hash) q c
  rule = is_map.map.rule

  chunked : is_chunked (Some map) m ≡ q
  chunked = chunks_are map number s m known shown

  apart : (n o : ℕ) → n < c.stored → o < c.stored → n ≢ o → number n ≢ number o
  apart n o l l2 ne e = elim (cases_lt n o) as (λ _. ⊥) [
    | inl less ↦ (let r = shown.pairs.rising n o less l2 in omega (arith, r, e))
    | inr more ↦ (let r = shown.pairs.rising o n (omega (arith, more, ne)) l in omega (arith, r, e))
  ]

  its_pair : (n : ℕ) → n < c.stored → s.blocks.pair_known n ≡ true → IsPairOf s known n (number n)
  its_pair n l seen = (l, seen, shown.pairs.roles n l seen)

  was_lying : (n : ℕ) → c.current n ≡ true → Lies q c n (m.spot (number n)) (m.copy (number n)) (m.born (number n)).turn
  was_lying n current =
      let it = there n current in
      record { lies = lying.lies n (number n) (its_pair n it.0 it.1) current; copied = λ e. lying.copied e n (number n) (its_pair n it.0 it.1) current }

  was_born : (n : ℕ) → n < c.stored → s.blocks.pair_known n ≡ true → (t i : ℕ) (b : Bool) → named_by (c.place t i) ≡ ThePair n b → (m.born (number n)).turn ≤ t
  was_born n l seen t i b e = lying.born n (number n) t i b (its_pair n l seen) e

  -- of a pair that is named nowhere earlier, and that lies somewhere, if it is in the map
  pub record Shown (v : Moment K V) (n k : ℕ) : Type 0 where
    pub born : (t i : ℕ) (b : Bool) → named_by (went.c2.place t i) ≡ ThePair n b → (v.born k).turn ≤ t
    pub lies : went.c2.current n ≡ true → Lies q went.c2 n (v.spot k) (v.copy k) (v.born k).turn

  -- so those do that were there, and those that have come
  module _ (v : Moment K V) (known2 : Known) (keeps : KeepsRoles known known2) (whole : went.c2.status 0 ≢ ABORTED)
      (old : (n : ℕ) → n < c.stored → s.blocks.pair_known n ≡ true → Shown v n (number n))
      (new : (n k : ℕ) → c.stored ≤ n → n < went.c2.stored → known2.roles (blocks2.pair n) ≡ role.Pair k → Shown v n k) where
    shown_each : (n k : ℕ) → IsPairOf s2 known2 n k → Shown v n k
    shown_each n k (l, seen, is) = elim (cases_lt n c.stored) as (λ _. Shown v n k) [
      | inl before ↦
          let known_then : s.blocks.pair_known n ≡ true = sym (grown.pairs n before).1 ∙ seen in
          let was = shown.pairs.roles n before known_then in
          let now : known2.roles (blocks2.pair n) ≡ role.Pair (number n) = ap known2.roles (grown.pairs n before).0 ∙ keeps (s.blocks.pair n) (subst IsLasting (sym was) tt) ∙ was in
          let one : number n ≡ k = cc (now, is) in
          subst (λ (x : ℕ). Shown v n x) one (old n before known_then)
      | inr after ↦ new n k after l is
    ]

    pub shown_all : RefinesSpots s2 v known2
    shown_all = record {
      born = λ n k t i b pair e. (shown_each n k pair).born t i b e;
      whole = whole;
      lies = λ n k pair current. ((shown_each n k pair).lies current).lies;
      copied = λ e n k pair current. ((shown_each n k pair).lies current).copied e;
    }

  module _ (told : Changed) (left : LeavesBy w.memory m2 told) where
    abbrev By : Move K → Type 0
    By = DidBy same slot caller map name number s lawful w sight is_sight is_map m2 Told went blocks2 grown sights2 m known shown shown_blocks told left

    abbrev effects : List Effect
    effects = effects_of (Call caller map) known told

    abbrev known2 : Known
    known2 = known_after (Call caller map) told known

    abbrev led : List Effect → Moment K V
    led e = with_effects name (Some map) e m

    abbrev Now : Type 0
    Now = RefinesSpots s2 (led effects) known2

    as_done : (e : List Effect) (k : Known) → (effects ≡ e) × (known2 ≡ k) → RefinesSpots s2 (led e) k → Now
    as_done e k done h = subst (λ (x : List Effect). RefinesSpots s2 (led x) known2) (sym done.0) (subst (RefinesSpots s2 (led e)) (sym done.1) h)

    -- no table has changed
    stays : went.c2 ≡ c → IsCalm known effects known2 → Now
    stays is calm =
        let aside = aside_all name (Some map) effects m (calm_aside effects calm.calm) in
        shown_all (led effects) known2 calm.keeps (subst (λ (x : Chart K). x.status 0 ≢ ABORTED) (sym is) lying.whole)
        (λ n l seen. record {
          born = λ t i b e. subst (λ (f : ℕ → TableId). (f (number n)).turn ≤ t) (sym aside.born) (was_born n l seen t i b (ap (λ (x : Chart K). named_by (x.place t i)) (sym is) ∙ e));
          lies = λ current. aside_lies (led effects) aside n (subst (λ (x : Chart K). Lies q x n (m.spot (number n)) (m.copy (number n)) (m.born (number n)).turn) (sym is)
              (was_lying n (ap (λ (x : Chart K). x.current n) (sym is) ∙ current)));
        })
        (λ n k after l is_pair. absurd (let z = ap (λ (x : Chart K). x.stored) is in omega (arith, z, after, l)))
      where
        aside_lies : (v : Moment K V) → AreAside m v → (n : ℕ) → Lies q went.c2 n (m.spot (number n)) (m.copy (number n)) (m.born (number n)).turn → Lies q went.c2 n (v.spot (number n)) (v.copy (number n)) (v.born (number n)).turn
        aside_lies v aside n h =
            subst (λ (f : ℕ → TableId). Lies q went.c2 n (v.spot (number n)) (v.copy (number n)) (f (number n)).turn) (sym aside.born)
            (subst (λ (f : ℕ → Spot). Lies q went.c2 n (v.spot (number n)) (f (number n)) (m.born (number n)).turn) (sym aside.copy)
            (subst (λ (f : ℕ → Spot). Lies q went.c2 n (f (number n)) (m.copy (number n)) (m.born (number n)).turn) (sym aside.spot) h))

    module _ (move : Move K) (allowed : Allowed same (spot_of s.hash) q move c) (is : went.c2 ≡ after (spot_of s.hash) q move c) where
      abbrev d : Chart K
      d = after (spot_of s.hash) q move c

      whole_then : went.c2.status 0 ≢ ABORTED
      whole_then = subst (λ (x : Chart K). x.status 0 ≢ ABORTED) (sym is) (whole_move same (spot_of s.hash) q c rule moments move allowed lying.whole)

      -- the pair lies, at a moment, where it does after the move
      shown_then : (v : Moment K V) (n : ℕ) → n < c.stored → s.blocks.pair_known n ≡ true → v.born (number n) ≡ m.born (number n)
          → (d.current n ≡ true → Lies q d n (v.spot (number n)) (v.copy (number n)) (m.born (number n)).turn) → Shown v n (number n)
      shown_then v n l seen born lies = record {
        born = λ t i b e. subst (λ (x : TableId). x.turn ≤ t) (sym born)
            (born_move same (spot_of s.hash) q c rule moments lying.whole n l (m.born (number n)).turn (was_born n l seen) move allowed t i b (ap (λ (x : Chart K). named_by (x.place t i)) (sym is) ∙ e));
        lies = λ current. subst (λ (x : TableId). Lies q went.c2 n (v.spot (number n)) (v.copy (number n)) x.turn) (sym born)
            (subst (λ (x : Chart K). Lies q x n (v.spot (number n)) (v.copy (number n)) (m.born (number n)).turn) (sym is) (lies (ap (λ (x : Chart K). x.current n) (sym is) ∙ current)));
      }

      -- where it lay, if the move leaves it
      plain_then : (n : ℕ) → n < c.stored → Spares c n move → d.current n ≡ true → Lies q d n (m.spot (number n)) (m.copy (number n)) (m.born (number n)).turn
      plain_then n l spares now =
          plain_lies same (spot_of s.hash) lawful.lawful c n (m.spot (number n)) (m.copy (number n)) (m.born (number n)).turn q rule l move allowed spares now
          (was_lying n (keeps_move same (spot_of s.hash) q c rule n l move allowed spares now).current)

      no_new : d.stored ≡ c.stored → (v : Moment K V) (k : Known) (n x : ℕ) → c.stored ≤ n → n < went.c2.stored → k.roles (blocks2.pair n) ≡ role.Pair x → Shown v n x
      no_new as_many v k n x after l is_pair = absurd (let z = ap (λ (x : Chart K). x.stored) is in omega (arith, z, as_many, after, l))

      -- effects that leave pairs where they lay
      aside_then : (e : List Effect) (k : Known) → Did same slot caller map name number s lawful w sight is_sight is_map m2 Told went blocks2 grown sights2 m known shown shown_blocks told left e k → AllAside e → KeepsRoles known k
          → d.stored ≡ c.stored → ((n : ℕ) → Spares c n move) → Now
      aside_then e k done all keeps as_many spares =
          let aside = aside_all name (Some map) e m all in
          as_done e k done (shown_all (led e) k keeps whole_then
          (λ n l seen. shown_then (led e) n l seen (ap (λ (f : ℕ → TableId). f (number n)) aside.born)
          (λ now. subst (λ (f : ℕ → Spot). Lies q d n ((led e).spot (number n)) (f (number n)) (m.born (number n)).turn) (sym aside.copy)
          (subst (λ (f : ℕ → Spot). Lies q d n (f (number n)) (m.copy (number n)) (m.born (number n)).turn) (sym aside.spot) (plain_then n l (spares n) now))))
          (no_new as_many (led e) k))

      calm_then : IsCalm known effects known2 → d.stored ≡ c.stored → ((n : ℕ) → Spares c n move) → Now
      calm_then calm as_many spares = aside_then effects known2 (refl, refl) (calm_aside effects calm.calm) calm.keeps as_many spares

      -- what is stored lies there, and all else where it lay
      module _ (first : List Effect) (t i : ℕ) (place : d.place ≡ put_in c.place t i (Holds c.stored Still false)) (same_first : d.first ≡ c.first) (one_more : d.stored ≡ suc c.stored)
          (home : c.first ≤ t) (root : q ≡ false → t ≡ c.first) (spares : (n : ℕ) → Spares c n move)
          (j b : ℕ) (own : known.roles b ≡ role.OwnPair j) (its_block : b ≡ went.blocks2.pair c.stored) (v : Moment K V)
          (spot_is : v.spot ≡ put (known.stored + 1) (spot_in t i) m.spot) (copy_is : v.copy ≡ m.copy) (born_is : v.born ≡ put (known.stored + 1) (table_of map t) m.born) where
        abbrev next : ℕ
        next = known.stored + 1

        none : (u y : ℕ) (x : Bool) → named_by (c.place u y) ≡ ThePair c.stored x → ⊥
        none u y x e = let l = named_stored same (spot_of s.hash) q c rule u y c.stored x e in omega (arith, l)

        older : (n : ℕ) → n < c.stored → number n ≢ next
        older n l e = let many = shown_blocks.stored in let le = (shown.pairs.numbered n l).1 in omega (arith, e, many, le)

        old_then : (n : ℕ) → n < c.stored → s.blocks.pair_known n ≡ true → Shown v n (number n)
        old_then n l seen = shown_then v n l seen (ap (λ (f : ℕ → TableId). f (number n)) born_is ∙ put_elsewhere next (table_of map t) m.born (number n) (older n l))
            (λ now. subst (λ (f : ℕ → Spot). Lies q d n (v.spot (number n)) (f (number n)) (m.born (number n)).turn) (sym copy_is)
            (subst (λ (x : Spot). Lies q d n x (m.copy (number n)) (m.born (number n)).turn)
            (sym (ap (λ (f : ℕ → Spot). f (number n)) spot_is ∙ put_elsewhere next (spot_in t i) m.spot (number n) (older n l))) (plain_then n l (spares n) now)))

        its_born : (v.born next).turn ≡ t
        its_born = ap (λ (f : ℕ → TableId). (f next).turn) born_is ∙ ap (λ (x : TableId). x.turn) (put_here next (table_of map t) m.born next refl)

        its_lies : Lies q d c.stored (v.spot next) (v.copy next) (v.born next).turn
        its_lies =
            subst (λ (x : ℕ). Lies q d c.stored (v.spot next) (v.copy next) x) (sym its_born)
            (subst (λ (x : Spot). Lies q d c.stored (v.spot next) x t) (sym (ap (λ (f : ℕ → Spot). f next) copy_is ∙ fresh next (let many = shown_blocks.stored in omega (arith, many))))
            (subst (λ (x : Spot). Lies q d c.stored x (spot_in 0 0) t) (sym (ap (λ (f : ℕ → Spot). f next) spot_is ∙ put_here next (spot_in t i) m.spot next refl)) (record {
              lies = new_lies same (spot_of s.hash) c d t i place same_first none q home root;
              copied = λ e. new_copied same (spot_of s.hash) c d t i place same_first none (root e);
            })))

        its_own : Shown v c.stored next
        its_own = record {
          born = λ u y x e. (let z = alone same (spot_of s.hash) c d t i place same_first none u y x (ap (λ (x : Chart K). named_by (x.place u y)) (sym is) ∙ e) in let turn = its_born in omega (arith, z, turn));
          lies = λ current. subst (λ (x : Chart K). Lies q x c.stored (v.spot next) (v.copy next) (v.born next).turn) (sym is) its_lies;
        }

        new_then : (n k : ℕ) → c.stored ≤ n → n < went.c2.stored → (with_pair b known).roles (blocks2.pair n) ≡ role.Pair k → Shown v n k
        new_then n k after l is_pair =
            let n_is : n ≡ c.stored = (let z = ap (λ (x : Chart K). x.stored) is in omega (arith, z, one_more, after, l)) in
            let block_is : blocks2.pair n ≡ b = ap blocks2.pair n_is ∙ (grown.new_pairs c.stored (omega arith)).0 ∙ sym its_block in
            let k_is : role.Pair next ≡ role.Pair k = sym (put_here b (role.Pair next) known.roles (blocks2.pair n) block_is) ∙ is_pair in
            let number_is : next ≡ k = cc k_is in
            subst (λ (x : ℕ). Shown v x k) (sym n_is) (subst (λ (x : ℕ). Shown v c.stored x) number_is its_own)

        pub store_then : RefinesSpots s2 v (with_pair b known)
        store_then = shown_all v (with_pair b known) (keeps_pair known b (λ lasting. subst IsLasting own lasting)) whole_then old_then new_then

      -- a pair was copied
      module _ (n : ℕ) (sp : Spot) (old : n < c.stored) (as_many : d.stored ≡ c.stored) (others : (o : ℕ) → n ≢ o → Spares c o move)
          (goes : d.current n ≡ true → Lies q d n (if q then later (m.spot (number n)) sp else m.spot (number n)) (later (m.copy (number n)) sp) (m.born (number n)).turn) where
        abbrev copying : Moment K V
        copying = led (Copied (number n) sp ∷ [])

        its_spot : copying.spot (number n) ≡ (if q then later (m.spot (number n)) sp else m.spot (number n))
        its_spot = ap (λ (x : Bool). spot_by x m.place m.copy (Copied (number n) sp) m.spot (number n)) chunked ∙ spot_copied q m.place m.copy (number n) sp m.spot

        copied_lies : d.current n ≡ true → Lies q d n (copying.spot (number n)) (copying.copy (number n)) (m.born (number n)).turn
        copied_lies now =
            subst (λ (x : Spot). Lies q d n (copying.spot (number n)) x (m.born (number n)).turn) (sym (put_here (number n) (later (m.copy (number n)) sp) m.copy (number n) refl))
            (subst (λ (x : Spot). Lies q d n x (later (m.copy (number n)) sp) (m.born (number n)).turn) (sym its_spot) (goes now))

        other_lies : (o : ℕ) → o < c.stored → o ≢ n → d.current o ≡ true → Lies q d o (copying.spot (number o)) (copying.copy (number o)) (m.born (number o)).turn
        other_lies o l ne now =
            subst (λ (x : Spot). Lies q d o (copying.spot (number o)) x (m.born (number o)).turn) (sym (put_elsewhere (number n) (later (m.copy (number n)) sp) m.copy (number o) (apart o n l old ne)))
            (subst (λ (x : Spot). Lies q d o x (m.copy (number o)) (m.born (number o)).turn) (sym (spot_copied_other _ m.place m.copy (number n) sp m.spot (number o) (apart o n l old ne)))
            (plain_then o l (others o (λ e. ne (sym e))) now))

        pub copy_then : RefinesSpots s2 copying known
        copy_then = shown_all copying known (λ b lasting. refl) whole_then
            (λ o l seen. shown_then copying o l seen refl (λ now. elim (cases_eq o n) as (λ _. Lies q d o (copying.spot (number o)) (copying.copy (number o)) (m.born (number o)).turn) [
              | inl e ↦ subst (λ (x : ℕ). Lies q d x (copying.spot (number x)) (copying.copy (number x)) (m.born (number x)).turn) (sym e) (copied_lies (ap d.current (sym e) ∙ now))
              | inr ne ↦ other_lies o l ne now
            ]))
            (no_new as_many copying known)

    root_home : (x : Bool) → cond x (c.first ≤ c.first) (c.first ≡ c.first)
    root_home true = omega arith
    root_home false = refl

    -- the root came to a table
    promote_then : (t : ℕ) → Allowed same (spot_of s.hash) q (Promotes t) c → went.c2 ≡ after (spot_of s.hash) q (Promotes t) c → RefinesSpots s2 (led (Promoted (table_of map t) ∷ [])) known
    promote_then t allowed is = shown_all v known (λ b lasting. refl) (whole_then (Promotes t) allowed is)
        (λ n l seen. shown_then (Promotes t) allowed is v n l seen refl (λ now. its_lies n l now))
        (no_new (Promotes t) allowed is refl v known)
      where
        v : Moment K V
        v = led (Promoted (table_of map t) ∷ [])

        its_lies : (n : ℕ) → n < c.stored → c.current n ≡ true
            → Lies q (after (spot_of s.hash) q (Promotes t) c) n (v.spot (number n)) (m.copy (number n)) (m.born (number n)).turn
        its_lies n l current =
            let comes = promote_lies same (spot_of s.hash) lawful.lawful c n (m.spot (number n)) (m.copy (number n)) (m.born (number n)).turn q rule t allowed current (was_lying n current) in
            subst (λ (x : Spot). Lies q (after (spot_of s.hash) q (Promotes t) c) n x (m.copy (number n)) (m.born (number n)).turn)
            (sym (ap (λ (x : Bool). spot_by x m.place m.copy (Promoted (table_of map t)) m.spot (number n)) chunked
            ∙ spot_promoted q m.place m.copy (table_of map t) m.spot (number n) (shown.pairs.here n l ∙ current) (λ e. eq-eqb (m.copy (number n)).turn t (comes.1 e)))) comes.0

    by_move : (move : Move K) → Allowed same (spot_of s.hash) q move c → went.c2 ≡ after (spot_of s.hash) q move c → By move → Now
    by_move (Links len limit) allowed is (b, own, done) =
        aside_then (Links len limit) allowed is _ _ done (refl, tt) (keeps_put known b (role.Table (table_of map c.past) len) (λ lasting. subst IsLasting own lasting)) refl (λ n. tt)
    by_move (Stores t k j) allowed is (i, b, own, its_block, done) =
        as_done _ _ done (store_then (Stores t k j) allowed is [] t (spot_of s.hash (c.len t) k j) refl refl refl allowed.1 (in_root same (spot_of s.hash) c t k q allowed.5) (λ n. tt) i b own its_block
        (led (Stored (known.stored + 1) (spot_in t (spot_of s.hash (c.len t) k j)) ∷ []))
        refl refl refl)
    by_move (Replaces t i k) allowed is (n, borrowed, held, (j, b, own, its_block, done)) =
        as_done _ _ done (store_then (Replaces t i k) allowed is (Replaced (number n) ∷ []) t i refl refl refl
        (still_home same (spot_of s.hash) c t i n borrowed k (held) q rule allowed.1) (in_root same (spot_of s.hash) c t k q allowed.1) (λ n. tt) j b own its_block
        (led (Replaced (number n) ∷ Stored (known.stored + 1) (spot_in t i) ∷ []))
        refl refl refl)
    by_move (Removes t i) allowed is (n, borrowed, held, done) = aside_then (Removes t i) allowed is _ _ done (refl, tt) (λ b lasting. refl) refl (λ n. tt)
    by_move (Puts by i t k j) allowed is (n, borrowed, held, l, seen, done) =
        as_done _ _ done (copy_then (Puts by i t k j) allowed is n (spot_in t (spot_of s.hash (c.len t) k j)) l refl
        (λ o ne b e. ne (other_pair n o borrowed b (sym (ap named_by held) ∙ e)))
        (λ now. put_lies same (spot_of s.hash) lawful.lawful c n (m.spot (number n)) (m.copy (number n)) (m.born (number n)).turn q rule by i t k j borrowed allowed held
        (was_born n l (is_sight.pairs n l seen) c.first i borrowed (ap named_by held))
        (was_lying n (rule.common.is_current c.first i n Copying borrowed held (λ e. cc e) (root_home q)))))
    by_move (PutsLate t i n) allowed is (l, seen, seen_table, done) =
        as_done _ _ done (copy_then (PutsLate t i n) allowed is n (spot_in t i) l refl (λ o ne. ne)
        (λ now. late_lies same (spot_of s.hash) lawful.lawful c n (m.spot (number n)) (m.copy (number n)) (m.born (number n)).turn q rule t i allowed (was_lying n now)))
    by_move (Promotes t) allowed is done = as_done _ _ done (promote_then t allowed is)
    by_move (Marks by i) allowed is calm = calm_then (Marks by i) allowed is calm refl (λ n. tt)
    by_move (MarksBlocking i) allowed is calm = calm_then (MarksBlocking i) allowed is calm refl (λ n. tt)
    by_move (Skips by t i) allowed is calm = calm_then (Skips by t i) allowed is calm refl (λ n. tt)
    by_move (Unmarks by i) allowed is calm = calm_then (Unmarks by i) allowed is calm refl (λ n. tt)
    by_move (Covers by i) allowed is calm = calm_then (Covers by i) allowed is calm refl (λ n. tt)
    by_move (Claims by t chunk) allowed is calm = calm_then (Claims by t chunk) allowed is calm refl (λ n. tt)
    by_move (Reclaims t claim) allowed is calm = calm_then (Reclaims t claim) allowed is calm refl (λ n. tt)
    by_move (Counts by t many) allowed is calm = calm_then (Counts by t many) allowed is calm refl (λ n. tt)
    by_move (GivesUp by t) allowed is calm = calm_then (GivesUp by t) allowed is calm refl (λ n. tt)
    by_move (Aborts t) allowed is calm = calm_then (Aborts t) allowed is calm refl (λ n. tt)
    by_move (Announces t) allowed is calm = calm_then (Announces t) allowed is calm refl (λ n. tt)

    -- so its pairs lie then
    pub own_lies : DidMoved same slot caller map name number s lawful w sight is_sight is_map m2 Told went blocks2 grown sights2 m known shown shown_blocks told left went.moved → Now
    own_lies did = by went.moved did
      where
        by : (moved : Moved same s.hash s.setting.mode caller c went.c2) → DidMoved same slot caller map name number s lawful w sight is_sight is_map m2 Told went blocks2 grown sights2 m known shown shown_blocks told left moved → Now
        by (inl still) calm = stays still calm
        by (inr made) did = by_move made.0 made.1 made.2 did
