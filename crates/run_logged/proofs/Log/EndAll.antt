-- What a whole end does: the pairs of the map end, place by place, and then its tables.
use Rattle.std.specs.Prelude.{◌≡◌, ◌<◌, ◌≤◌, ◌+◌, ◌-◌, ℕ, zero, suc, Bool, true, false, cond, List, [], ◌∷◌, ◌++◌, map}
use Rattle.std.proofs.Common.{refl, ap, ◌∙◌, arith}
use Rattle.std.proofs.lemmas.Grind.{flat_map-append}
use Rattle.std.proofs.lemmas.List.{append-nil}
use Rattle.seize.specs.World.{times}
use Rattle.papaya_raw.specs.Given.TablesChunks.{is_incremental}
use Rattle.papaya_raw.specs.Given.TablesDeclared.setting.Setting.{Setting}
use Rattle.run_effects.specs.Given.RuleChart.{Chart}
use Rattle.run_effects.specs.Given.RuleWords.{Blocks}
use Rattle.run_schedules.specs.declared.effect.Effect.{Effect}
use Rattle.run_schedules.specs.declared.effect.Effect.TheVariants.{Ended, Taken}
use Rattle.run_effects.specs.Effects.Effects.{taken_by}
use Rattle.run_effects.specs.Effects.Known.{Known}
use Rattle.run_effects.specs.declared.acting.Acting.TheVariants.{Ending}
use Rattle.run_effects.specs.declared.role.Role.{Role}
use Rattle.run_shows.specs.Given.FinishesEndings.{AllPairsOnce}
use Rattle.run_shows.specs.Given.FinishesFactsEnds.{back_of}
use Rattle.run_shows.specs.Given.FinishesOrders.{pairs_of, tables_in}
use Rattle.run_shows.proofs.Given.FinishesEnds.CountedBlocks.{some_here}
use Rattle.run_shows.specs.Follows.Maps.{table_of}
use Rattle.run_executor.specs.Given.MomentsWholeEnds.{all_ended, tables_ended}
use Rattle.run_logged.specs.Log.Ends.{NotesMap}
use Rattle.run_kept.specs.Ends.{ended_as}

-- a pair of the list is one of the map
current_of : (q : Bool) (n : ℕ) → 0 < n → n ≡ cond q 1 0 → q ≡ true
current_of true n some is = refl
current_of false n some is = absurd (omega (arith, some, is))

module _ {K : Type 0} (number_of : ℕ) (number : ℕ → ℕ) (first : Known) (setting : Setting) (c : Chart K) (blocks : Blocks) (notes : NotesMap number_of number first setting c blocks) where
  abbrev did : List ℕ → List Effect
  did blocks = ended_as number_of first blocks

  pairs_end : (ps : List ℕ) → ((n : ℕ) → 0 < times n ps → c.current n ≡ true) → did (map blocks.pair ps) ≡ map (λ n. Ended (number n)) ps
  pairs_end [] current = refl
  pairs_end (n ∷ ps) current =
      ap (λ (r : Role). taken_by (Ending number_of) r ++ did (map blocks.pair ps)) (notes.pairs n (current n (some_here n ps)))
      ∙ ap (λ (l : List Effect). Ended (number n) ∷ l) (pairs_end ps (λ k some. current k (omega (arith, some))))

  tables_end : (t more : ℕ) → ((u : ℕ) → t ≤ u → u < t + more → (c.first ≤ u) × (u < c.past)) → did (tables_in blocks.table (λ u. []) false t more) ≡ tables_ended number_of t more
  tables_end t zero from = refl
  tables_end t (suc more) from =
      (let here = from t (omega arith) (omega arith) in
      ap (λ (r : Role). taken_by (Ending number_of) r ++ did (tables_in blocks.table (λ u. []) false (suc t) more)) (notes.tables t here.0 here.1))
      ∙ ap (λ (l : List Effect). Taken (table_of number_of t) ∷ l) (tables_end (suc t) more (λ u a b. from u (omega (arith, a)) (omega (arith, b))))

  counter_ends : did (setting.counter ∷ []) ≡ []
  counter_ends = ap (λ (r : Role). taken_by (Ending number_of) r ++ []) notes.counter

  abbrev its : ℕ → List Effect
  its b = taken_by (Ending number_of) (first.roles b)

  abbrev pairs : List ℕ
  pairs = pairs_of (is_incremental setting.mode) c

  abbrev tables : List ℕ
  tables = tables_in blocks.table (λ t. []) false c.first (c.past - c.first)

  tables_so : did (tables ++ setting.counter ∷ []) ≡ tables_ended number_of c.first (c.past - c.first)
  tables_so =
      flat_map-append its tables (setting.counter ∷ []) ∙ ap (λ (l : List Effect). did tables ++ l) counter_ends ∙ append-nil (did tables)
      ∙ tables_end c.first (c.past - c.first) (λ u a b. (a, omega (arith, a, b)))

  pub all_end : AllPairsOnce (is_incremental setting.mode) c → did (back_of setting c blocks (λ t. []) false) ≡ all_ended (is_incremental setting.mode) number_of number c
  all_end once =
      flat_map-append its (map blocks.pair pairs) (tables ++ setting.counter ∷ [])
      ∙ ap (λ (l : List Effect). l ++ did (tables ++ setting.counter ∷ [])) (pairs_end pairs (λ n some. current_of (c.current n) (times n pairs) some (once n)))
      ∙ ap (λ (l : List Effect). map (λ n. Ended (number n)) pairs ++ l) tables_so
