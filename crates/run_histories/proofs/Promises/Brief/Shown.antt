-- What a lookup has read is few, by the tables that a moment shows.
use Rattle.std.specs.Prelude.{ℕ, suc, ◌+◌, ◌≤◌, nat_le, Bool, true, false, List, [], ◌∷◌, filter, sum_by}
use Rattle.std.proofs.Common.{◌≡◌, refl, ap, sym, subst, ◌∙◌, inl, inr, arith}
use Rattle.run_places.specs.Given.TablesChunks.{is_incremental}
use Rattle.run_places.specs.Given.ResizeDeclared.lookup.Looking.{Looking}
use Rattle.run_places.specs.Given.ResizeDeclared.lookup.Looking.TheVariants as at
use Rattle.run_places.specs.Given.RuleChart.{Chart}
use Rattle.run_places.specs.Given.FinishesMaps.{Standing}
use Rattle.run_places.specs.Given.SchedulesLists.{OneOf}
use Rattle.run_places.specs.Given.SchedulesMoment.{UnderWay as CallThere, TableThere, Moment}
use Rattle.run_places.specs.Given.SchedulesSteps.{met_from, root_table, ReadsFew}
use Rattle.run_places.specs.Given.SchedulesViews.{first_or, first_of}
use Rattle.run_places.specs.Given.EffectsKnown.{Known}
use Rattle.run_places.specs.Given.FollowsMaps.{RefinesTables}
use Rattle.run_histories.specs.Promises.Brief.{words_of, read_to, HasRead, ReadsAt, TablesLast, ReadingsLast, WasRoot, ReadsSince, ReadingsAreFew, RootsAreShown}
use Rattle.run_histories.proofs.Promises.Brief.Sums.{through, none_before, as_long, met_words, root_words}

-- one element has it where another has what leads to it
pub one_as : {X : Type 0} (P Q : X → Type 0) → ((x : X) → P x → Q x) → (xs : List X) → OneOf P xs → OneOf Q xs
one_as P Q leads [] h = h
one_as P Q leads (x ∷ xs) (inl h) = inl (leads x h)
one_as P Q leads (x ∷ xs) (inr h) = inr (one_as P Q leads xs h)

-- tables that last are read as before

module _ {K : Type 0} (incremental : Bool) (c c2 : Chart K) (last : TablesLast c c2) (first steps : ℕ) where
  read_lasts : (turn most most2 : ℕ) → most2 ≡ most → HasRead incremental c first turn steps most → HasRead incremental c2 first turn steps most2
  read_lasts turn most most2 same h = record {
    from = h.from;
    made = (let made = h.made in let past = last.past in omega (arith, made, past));
    few = (
        let few = h.few in
        let same_words = as_long c.limit c2.limit first turn (λ u l. last.limits u (let made = h.made in omega (arith, l, made))) in
        omega (arith, few, same_words, same)
        );
  }

  reads_last : (stands : Looking) → ReadsAt incremental c first steps stands → ReadsAt incremental c2 first steps stands
  reads_last at.Roots h = h
  reads_last (at.Probes trial) h = (
    read_lasts trial.table.turn trial.probe.len trial.probe.len refl h.0,
    (let low = h.1 in let same = last.limits trial.table.turn h.0.made in omega (arith, low, same)),
  )
  reads_last (at.Nexts table) h = read_lasts table.turn (suc (c.limit table.turn)) (suc (c2.limit table.turn)) (ap (λ (n : ℕ). suc n) (last.limits table.turn h.made)) h
  reads_last (at.Over found) h = h

pub readings_last : (K : Type 0) → ReadingsLast K
readings_last K incremental c c2 last first steps stands h = reads_last incremental c c2 last first steps stands h

-- with its next step

module _ {K : Type 0} (incremental : Bool) (c : Chart K) (first steps : ℕ) where
  -- it is in a table, and has read no more words of it than it may
  record IsWithin : Type 0 where
    turn : ℕ
    reads : HasRead incremental c first turn steps (suc (c.limit turn))

  within : (stands : Looking) → (stands ≡ at.Roots → ⊥) → ReadsAt incremental c first steps stands → IsWithin
  within at.Roots none h = absurd (none refl)
  within (at.Probes trial) none h = record {
    turn = trial.table.turn;
    reads = record { from = h.0.from; made = h.0.made; few = (let few = h.0.few in let low = h.1 in omega (arith, few, low)) };
  }
  within (at.Nexts table) none h = record { turn = table.turn; reads = h }
  within (at.Over found) none h = absurd h

module _ {K V : Type 0} (s : Standing K) (now : Moment K V) (known : Known) (call : CallThere K V) (steps : ℕ) (shows : RefinesTables call.map s now known) where
  -- the words of the tables from this turn on, as the moment has them
  words_now : (first : ℕ) → sum_by words_of (met_from call.map first now) ≡ read_to s.chart.limit first s.chart.past
  words_now first =
      ap (λ (ts : List TableThere). sum_by words_of (filter (λ t. nat_le first t.table.turn) ts)) shows.listed
      ∙ met_words call.map s.chart shows.stage first s.chart.past

  few_so : (incremental : Bool) (first : ℕ) → IsWithin incremental s.chart first steps → (v : Moment K V) → WasRoot incremental call.map s.chart first v
      → ReadsFew incremental call now (suc steps) v
  few_so true first is v was =
      let few = is.reads.few in
      let all = through s.chart.limit first is.turn s.chart.past is.reads.from is.reads.made in
      let words = words_now (first_of call.map v) in
      let same : read_to s.chart.limit (first_of call.map v) s.chart.past ≡ read_to s.chart.limit first s.chart.past = ap (λ (f : ℕ). read_to s.chart.limit f s.chart.past) was.0 in
      omega (arith, few, all, words, same)
  few_so false first is v was =
      let here : is.turn ≡ first = is.reads.from in
      let few : steps ≤ 1 + read_to s.chart.limit first first + suc (s.chart.limit first) =
      subst (λ (t : ℕ). steps ≤ 1 + read_to s.chart.limit first t + suc (s.chart.limit t)) here is.reads.few in
      let none = none_before s.chart.limit first first (omega arith) in
      let words = was.1 refl in
      omega (arith, few, none, words)

module _ (K V : Type 0) where
  pub readings_are_few : ReadingsAreFew K V
  readings_are_few s now v known call moments steps stands shows since = by stands refl since
    where
      begins : (b : Bool) → steps ≡ 0 → ReadsFew b call now (suc steps) v
      begins true none = omega (arith, none)
      begins false none = omega (arith, none)

      goes : (first : ℕ) → (stands ≡ at.Roots → ⊥) → ReadsAt (is_incremental s.setting.mode) s.chart first steps stands
          → OneOf (WasRoot (is_incremental s.setting.mode) call.map s.chart first) (v ∷ moments) → OneOf (ReadsFew (is_incremental s.setting.mode) call now (suc steps)) (v ∷ moments)
      goes first none reads was =
          one_as (WasRoot (is_incremental s.setting.mode) call.map s.chart first) (ReadsFew (is_incremental s.setting.mode) call now (suc steps))
          (λ x h. few_so s now known call steps shows (is_incremental s.setting.mode) first (within (is_incremental s.setting.mode) s.chart first steps stands none reads) x h) (v ∷ moments) was

      by : (x : Looking) → stands ≡ x → ReadsSince (is_incremental s.setting.mode) call.map s.chart (v ∷ moments) steps x
          → OneOf (ReadsFew (is_incremental s.setting.mode) call now (suc steps)) (v ∷ moments)
      by at.Roots e h = inl (begins (is_incremental s.setting.mode) h)
      by (at.Probes trial) e h =
          goes h.0 (λ none. absurd (cc (e, none))) (subst (ReadsAt (is_incremental s.setting.mode) s.chart h.0 steps) (sym e) h.1) h.2
      by (at.Nexts table) e h =
          goes h.0 (λ none. absurd (cc (e, none))) (subst (ReadsAt (is_incremental s.setting.mode) s.chart h.0 steps) (sym e) h.1) h.2
      by (at.Over found) e h =
          goes h.0 (λ none. absurd (cc (e, none))) (subst (ReadsAt (is_incremental s.setting.mode) s.chart h.0 steps) (sym e) h.1) h.2

  pub roots_are_shown : RootsAreShown K V
  roots_are_shown map s v known there tables made = (first_is, λ blocking. words)
    where
      first_is : first_of map v ≡ s.chart.first
      first_is = ap first_or there.is ∙ there.first

      words : s.chart.limit s.chart.first + 2 ≤ sum_by words_of (root_table map v)
      words = subst (λ (f : ℕ). s.chart.limit s.chart.first + 2 ≤ sum_by words_of (filter (λ t. nat_le t.table.turn f) (met_from map f v))) (sym first_is)
          (subst (λ (ts : List TableThere). s.chart.limit s.chart.first + 2 ≤ sum_by words_of (filter (λ t. nat_le t.table.turn s.chart.first) (filter (λ t. nat_le s.chart.first t.table.turn) ts)))
          (sym tables.listed) (root_words map s.chart tables.stage s.chart.first s.chart.past made))
