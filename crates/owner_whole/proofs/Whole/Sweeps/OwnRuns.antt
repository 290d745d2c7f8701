-- What a sweep that is alone has done to the pairs of the map, over a step of its own.
use Rattle.std.specs.Prelude.{◌≡◌, ◌≢◌, ℕ, ◌+◌, ◌<◌, ◌≤◌, ◌⊎◌, Bool, true, false, cond, eqb, List, []}
use Rattle.std.proofs.Common.{inl, inr, refl, ap, sym, subst, ◌∙◌, arith}
use Rattle.std.proofs.lemmas.Bool.{cases_eq, cases_lt, eq-eqb, ne_eqb}
use Rattle.seize_words.specs.OneMemory.Mem.{Mem, Took, value_at}
use Rattle.seize_words.specs.OneMemory.Plan.{Steps}
use Rattle.seize.specs.World.{World}
use Rattle.map_tables.specs.Chunks.{is_incremental}
use Rattle.map_tables.specs.declared.node.Node.{Node}
use Rattle.map_tables.specs.declared.setting.Setting.{Setting}
use Rattle.map_tables.specs.declared.table.Table.{Table}
use Rattle.papaya_raw.specs.Given.SweepsSweep.{plan_at, sweep_plan}
use Rattle.papaya_raw.specs.Given.ReservesDeclared.sweep.Purpose.TheVariants.{Walks, Retains}
use Rattle.papaya_raw.specs.Given.ReservesDeclared.sweep.Sweep.{Sweep}
use Rattle.papaya_raw.specs.Given.ReservesDeclared.sweep.Sweeping.{Sweeping}
use Rattle.papaya_raw.specs.Given.ReservesDeclared.sweep.Sweeping.TheVariants as at
use Rattle.papaya_raw.specs.Given.ReservesDeclared.sweep.Swept.{Swept}
use Rattle.papaya_raw.specs.Given.ReservesDeclared.sweep.Swept.TheVariants as swept
use Rattle.map_measures.specs.Given.RuleChart.{Still, Place, Holds, Chart, put}
use Rattle.map_measures.specs.Given.RuleMoves.{without}
use Rattle.map_measures.specs.Given.RuleWords.{Blocks}
use Rattle.map_measures.specs.Given.RuleMaps.{spot_of}
use Rattle.map_measures.specs.Given.RuleInWorld.{IsMapIn, Moved}
use Rattle.map_measures.specs.Given.RuleMoments.{Moments, Remembers}
use Rattle.map_measures.specs.Given.LateCovers.{times, CoversTo, CoversAt}
use Rattle.map_measures.specs.Given.LateCoversSweeps.{DoneBy, DoneAt}
use Rattle.owner_facts.specs.Given.LateFactsSweeps.{SweepingFacts, SweepFacts}
use Rattle.owner_facts.specs.Given.LateToldSweeps.{RemovesPair, OutcomeAgrees, SweepAfter, SweepOutcome}
use Rattle.owner_facts.proofs.Given.LateSwept.Sweeps.Moved.{SweepMoves}
use Rattle.owner_facts.specs.Given.CallersOverAll.{CallOverAll, come_to, TriesAsReplied, RemovesAsReplied}
use Rattle.owner_whole.specs.Whole.Contents.{KeepsPairs}
use Rattle.owner_whole.specs.Whole.LoneSweeps.{IsBefore, goes_once, OverRoot}
use Rattle.owner_whole.specs.Whole.SweptPairs.{about_to_go, gone_since}
use Rattle.owner_whole.specs.Whole.WholeSweeps.{ShowsNew}
use Rattle.owner_whole.proofs.Whole.Contents.Runs.{out_of, now_next}
use Rattle.owner_whole.proofs.Whole.Sweeps.Onward.{about_none, tries_cases, Counts, Onward, counts_gone}
use Rattle.owner_whole.proofs.Whole.Sweeps.Own.{before_cases}
use Rattle.owner_whole.proofs.Whole.Sweeps.Stages.{StageTold}
use Rattle.owner_whole.proofs.Whole.Sweeps.Tried.{tried_removes}

-- the pairs that the map has after a step it had before
pub less_pairs : {K : Type 0} (o : CallOverAll) (c c2 : Chart K) → RemovesAsReplied o c c2 → (n : ℕ) → c2.current n ≡ true → c.current n ≡ true
less_pairs o c c2 (inl e) n is = sym (ap (λ (f : ℕ → Bool). f n) e) ∙ is
less_pairs o c c2 (inr (i, there, e, told)) n is = out_of c.current i n (sym (ap (λ (f : ℕ → Bool). f n) e) ∙ is)

walks_same : {K : Type 0} (o : CallOverAll) (c c2 : Chart K) → RemovesAsReplied o c c2 → o.sweep.purpose ≡ Walks → c2.current ≡ c.current
walks_same o c c2 (inl e) walks = e
walks_same o c c2 (inr (i, there, e, inl clears)) walks = absurd (cc (clears, walks))
walks_same o c c2 (inr (i, there, e, inr (retains, told))) walks = absurd (cc (retains, walks))

-- nothing is done then, or what was, or a pair more
done_cases : {K T : Type 0} (hash : K → ℕ) (c : Chart K) (blocks : Blocks) (done done2 : List ℕ) (entered entered2 : ℕ) (end : Swept T) (stage : Sweeping)
    → DoneAt hash c blocks done done2 entered entered2 end stage → (done2 ≡ []) ⊎ DoneBy hash c blocks done done2 end
done_cases hash c blocks done done2 entered entered2 end at.Reads h = inl h
done_cases hash c blocks done done2 entered entered2 end at.Follows h = inl h
done_cases hash c blocks done done2 entered entered2 end (at.Copies copier) h = inl h
done_cases hash c blocks done done2 entered entered2 end at.Ready h = inr h.1
done_cases hash c blocks done done2 entered entered2 end at.Words h = inr h.1
done_cases hash c blocks done done2 entered entered2 end (at.Asks word) h = inr h.1
done_cases hash c blocks done done2 entered entered2 end (at.Tries word) h = inr h.1
done_cases hash c blocks done done2 entered entered2 end (at.Counts removed) h = inr h.1
done_cases hash c blocks done done2 entered entered2 end (at.Disposes dispose) h = inr h.1
done_cases hash c blocks done done2 entered entered2 end at.Over h = inr h.1
done_cases hash c blocks done done2 entered entered2 end (at.Refused fault) h = inr h.1

module _ {K V : Type 0} (same : K → K → Bool) (hash : K → ℕ) (setting : Setting) (w : World (Node K V)) (c : Chart K) (blocks seen : Blocks) (map : IsMapIn same hash setting w c seen) (o : CallOverAll)
    (f : SweepFacts same hash w 0 setting c seen o.began o.sweep) (over : OverRoot hash (is_incremental setting.mode) c seen o.sweep o.sweep.stands) (covers : CoversAt hash c seen o.sweep o.entered o.done o.sweep.stands)
    (to_go : TriesAsReplied hash c seen o.told o.sweep.purpose o.sweep.stands) (m2 : Mem (Node K V)) (p2 : Sweep) (end : Swept (Node K V))
    (steps : Steps Took value_at w.memory (sweep_plan hash o.sweep) m2 (p2, end)) (w2 : World (Node K V)) (c2 : Chart K) (blocks2 blocks3 : Blocks)
    (told : SweepOutcome same hash 0 setting o.began c seen o.sweep w2 c2 blocks2 p2 end) (stage : StageTold same hash setting w2 c2 blocks2 o.sweep (p2, end))
    (moves : SweepMoves same hash 0 setting o.began w c seen o.sweep o.sweep.stands (p2, end) w2 c2 blocks2) (moved : Moved same hash setting.mode 0 c c2) (remembers : Remembers (is_incremental setting.mode) c c2)
    (moments2 : Moments (is_incremental setting.mode) c2) (removes : RemovesAsReplied o c c2) (entered2 : ℕ) (done2 : List ℕ) (from : o.began ≤ entered2)
    (is_done : DoneAt hash c2 blocks2 o.done done2 o.entered entered2 end o.sweep.stands)
    (tells : ShowsNew hash w2.memory c2 blocks3 (goes_once (is_incremental setting.mode) o.sweep.purpose) o.done done2 end)
    (kept : goes_once (is_incremental setting.mode) o.sweep.purpose ≡ true → ((word : ℕ) → end ≢ swept.Pair word) → done2 ≡ o.done) where
  abbrev b : Bool
  b = is_incremental setting.mode

  -- what the map has, it had since
  still_then : (i n : ℕ) → i ≤ c2.now → c2.current n ≡ true → ((i ≤ c.now) × (c2.was i n ≡ c.was i n) × (c.current n ≡ true)) ⊎ (c2.was i n ≡ true)
  still_then i n h is = elim (cases_lt c.now i) as (λ _. ((i ≤ c.now) × (c2.was i n ≡ c.was i n) × (c.current n ≡ true)) ⊎ (c2.was i n ≡ true)) [
    | inl later ↦ (
        let next = now_next same hash setting.mode 0 c c2 moved in let e : i ≡ c2.now = omega (arith, later, h, next) in
        inr (ap (λ (x : ℕ). c2.was x n) e ∙ moments2.now_is n ∙ is)
        )
    | inr before ↦ inl (before, ap (λ (g : ℕ → Bool). g n) (remembers.was i before), less_pairs o c c2 removes n is)
  ]

  -- before a place it removes nothing
  before_same : IsBefore o.sweep.stands → c2.current ≡ c.current
  before_same early = by told.changes
    where
      by : (c2.current ≡ c.current) ⊎ RemovesPair hash c seen o.sweep c2 → c2.current ≡ c.current
      by (inl e) = e
      by (inr removing) = absurd (subst IsBefore removing.2 early)

  before_then : goes_once b o.sweep.purpose ≡ true → IsBefore p2.stands → IsBefore o.sweep.stands × (c2.current ≡ c.current)
  before_then once early2 = elim (before_cases o.sweep.stands) as (λ _. IsBefore o.sweep.stands × (c2.current ≡ c.current)) [
    | inl early ↦ (early, before_same early)
    | inr at_place ↦ absurd (stage.none once at_place early2)
  ]

  -- what is done it does not remove
  done_stays : ((n : ℕ) → 0 < times n o.done → c.current n ≡ true) → (n : ℕ) → 0 < times n o.done → c2.current n ≡ true
  done_stays old n l = by told.changes
    where
      by : (c2.current ≡ c.current) ⊎ RemovesPair hash c seen o.sweep c2 → c2.current n ≡ true
      by (inl e) = ap (λ (g : ℕ → Bool). g n) e ∙ old n l
      by (inr (word, i, tries, (t, borrowed, there, stands, is), current, gone)) =
          let to : CoversTo hash c seen o.sweep o.entered o.done o.sweep.place = subst (CoversAt hash c seen o.sweep o.entered o.done) tries covers in
          elim (cases_eq n i) as (λ _. c2.current n ≡ true) [
            | inl e ↦ absurd ((to.before n l).1 o.sweep.place Still borrowed (omega arith)
                (ap (λ (x : ℕ). c.place x o.sweep.place) (ap (λ (x : Table). x.turn) there.is) ∙ stands ∙ ap (λ (x : ℕ). Holds x Still borrowed) (sym e)))
            | inr other ↦ ap (λ (g : ℕ → Bool). g n) gone ∙ ap (λ (x : Bool). cond x false (c.current n)) (ne_eqb n i other) ∙ old n l
          ]

  done_then : ((n : ℕ) → 0 < times n o.done → c.current n ≡ true) → (n : ℕ) → 0 < times n done2 → c2.current n ≡ true
  done_then old n l = elim (done_cases hash c2 blocks2 o.done done2 o.entered entered2 end o.sweep.stands is_done) as (λ _. c2.current n ≡ true) [
    | inl e ↦ absurd (let none : times n done2 ≡ 0 = ap (times n) e in omega (arith, l, none))
    | inr by_end ↦ by end tells by_end
  ]
    where
      as_was : done2 ≡ o.done → c2.current n ≡ true
      as_was e = done_stays old n (subst (λ (xs : List ℕ). 0 < times n xs) e l)

      by : (x : Swept (Node K V)) → ShowsNew hash w2.memory c2 blocks3 (goes_once b o.sweep.purpose) o.done done2 x → DoneBy hash c2 blocks2 o.done done2 x → c2.current n ≡ true
      by (swept.Pair word) (i, key, v, new, e) h = elim (cases_eq n i) as (λ _. c2.current n ≡ true) [
        | inl is ↦ ap c2.current is ∙ new.0.is_there
        | inr other ↦ done_stays old n
            (let more : times n done2 ≡ cond (eqb n i) 1 0 + times n o.done = ap (times n) e in let no : cond (eqb n i) 1 0 ≡ 0 = ap {B = ℕ} (λ (x : Bool). cond x 1 0) (ne_eqb n i other) in omega (arith, l, more, no))
      ]
      by (swept.Asks word) t h = as_was h
      by swept.Goes t h = as_was h
      by swept.Waits t h = as_was h
      by (swept.Gave value) t h = as_was h
      by swept.Ready t h = as_was h
      by swept.Done t h = as_was h
      by (swept.Refused fault) t h = as_was h

  -- a retaining shows no pair
  shows_none : o.sweep.purpose ≡ Retains → (word : ℕ) → end ≢ swept.Pair word
  shows_none retains word is =
      let ready = (subst (λ (x : Swept (Node K V)). OutcomeAgrees o.sweep.stands p2.stands x) is told.stands.tells).1 in
      let facts : SweepFacts same hash w2 0 setting c2 blocks2 o.began p2 = subst (λ (x : Swept (Node K V)). SweepAfter same hash 0 setting o.began w2 c2 blocks2 (p2, x)) is told.facts in
      let walks : p2.purpose ≡ Walks = (subst (SweepingFacts same hash w2 0 setting c2 blocks2 o.began p2) ready facts.point).0 in
      let kind = told.stands.purpose in cc (walks, kind, retains)

  -- it was told about as many pairs
  asks_then : (asked : List ℕ) (c0 : Chart K) → ((n : ℕ) → c.current n ≡ true → c0.current n ≡ true) → goes_once b o.sweep.purpose ≡ true → o.sweep.purpose ≡ Retains → Counts c0 c asked o
      → Counts c0 c2 asked (come_to o entered2 done2 p2)
  asks_then asked c0 had once retains old = elim (tries_cases o.sweep.stands) as (λ _. Counts c0 c2 asked (come_to o entered2 done2 p2)) [
    | inl tries ↦ by_try tries.0 tries.1
    | inr other ↦ (λ n. beside n (λ word e. other word e))
  ]
    where
      done_is : done2 ≡ o.done
      done_is = kept once (shows_none retains)

      none2 : (n : ℕ) → about_to_go p2.stands o.told n ≡ 0
      none2 n = about_none p2.stands (told.stands.tries retains) o.told n

      as_many : (n x y : ℕ) → x ≡ 0 → times n asked ≡ times n o.done + y + 0 → times n asked ≡ times n done2 + y + x
      as_many n x y none e = let d = ap (times n) done_is in omega (arith, none, e, d)

      beside : (n : ℕ) → ((word : ℕ) → o.sweep.stands ≢ at.Tries word) → times n asked ≡ times n done2 + gone_since c0 c2 n + about_to_go p2.stands o.told n
      beside n other = as_many n (about_to_go p2.stands o.told n) (gone_since c0 c2 n) (none2 n)
          (let e = old n in let was = about_none o.sweep.stands other o.told n in let same_gone = ap (λ (g : ℕ → Bool). cond (c0.current n) (cond (g n) 0 1) 0) same_pairs in
          joins (times n asked) (times n o.done) (gone_since c0 c n) (gone_since c0 c2 n) (about_to_go o.sweep.stands o.told n) e was same_gone)
        where
          same_pairs : c2.current ≡ c.current
          same_pairs = by told.changes
            where
              by : (c2.current ≡ c.current) ⊎ RemovesPair hash c seen o.sweep c2 → c2.current ≡ c.current
              by (inl e) = e
              by (inr removing) = absurd (other removing.0 removing.2)

          joins : (a d g h t : ℕ) → a ≡ d + g + t → t ≡ 0 → h ≡ g → a ≡ d + h + 0
          joins a d g h t was none e = omega (arith, was, none, e)

      by_try : (word : ℕ) → o.sweep.stands ≡ at.Tries word → Counts c0 c2 asked (come_to o entered2 done2 p2)
      by_try word is =
          let point = subst (SweepingFacts same hash w 0 setting c seen o.began o.sweep) is f.point in
          let root = subst (OverRoot hash b c seen o.sweep) is over in
          let at_try = subst (λ (x : Sweeping). SweepMoves same hash 0 setting o.began w c seen o.sweep x (p2, end) w2 c2 blocks2) is moves in
          let gone = tried_removes same hash b setting o.began w c seen map o.sweep point.2 point.3.0 point.3.1 word (root.1 retains) m2 (p2, end)
          (subst (λ (x : Sweeping). Steps Took value_at w.memory (plan_at hash o.sweep x) m2 (p2, end)) is steps) c2 at_try.1 in
          let last = subst (TriesAsReplied hash c seen o.told o.sweep.purpose) is to_go retains in
          removed is gone.0 gone.2 removes (ap (λ (d : Chart K). d.current) gone.3 ∙ ap (λ (x : Place). without (spot_of hash) b x c.current) gone.1.3)
        where
          removed : o.sweep.stands ≡ at.Tries word → (i : ℕ) → c.current i ≡ true → RemovesAsReplied o c c2 → c2.current ≡ put c.current i false → Counts c0 c2 asked (come_to o entered2 done2 p2)
          removed is i there (inl e) gone = absurd (let none : put c.current i false i ≡ false = ap (λ (x : Bool). cond x false (c.current i)) (eq-eqb i i refl) in let here = ap (λ (g : ℕ → Bool). g i) (sym gone ∙ e) in cc (none, here, there))
          removed is i there (inr (n, current, went, inl clears)) gone = absurd (cc (clears, retains))
          removed is i there (inr (n, current, went, inr (keeps, told_is))) gone = λ x. as_many x (about_to_go p2.stands o.told x) (gone_since c0 c2 x) (none2 x)
              (counts_gone c0 c c2 n current (had n current) went (λ y. times y asked) (λ y. times y o.done)
              (λ y. old y ∙ ap (λ (z : ℕ). times y o.done + gone_since c0 c y + z) (ap (λ (z : Sweeping). about_to_go z o.told y) is ∙ ap (λ z. about_to_go (at.Tries word) z y) told_is)) x)

  pub own_onward : (asked : List ℕ) → KeepsPairs w.memory c blocks w2.memory c2 blocks3 → c2.stored ≡ c.stored
      → Onward b w.memory c blocks asked o w2.memory c2 blocks3 asked (come_to o entered2 done2 p2)
  own_onward asked keeps stored = record {
    keeps = keeps;
    stored = stored;
    still = still_then;
    began = refl;
    purpose = told.stands.purpose;
    from = λ l. from;
    walks = walks_same o c c2 removes;
    before = before_then;
    done = done_then;
    asks = asks_then asked;
  }
