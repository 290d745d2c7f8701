-- Maps that are there, and those of all tables, have numbers below a count: so after each entry, as it was after its effects.
use Rattle.std.specs.Prelude.{◌≡◌, ◌==◌, ◌<◌, ℕ, List, [], ◌∷◌, ◌++◌, cond, find, Some, None}
use Rattle.std.specs.List.{All}
use Rattle.std.specs.Option.{option_or}
use Rattle.std.proofs.Common.{refl, ap, sym, subst, ◌∙◌, arith}
use Rattle.std.proofs.lemmas.Bool.{eq-eqb}
use Rattle.std.proofs.lemmas.List.Elements.{All-append, All-cons}
use Rattle.std.proofs.lemmas.List.Folds.{find-append}
use Rattle.run_schedules.specs.Schedules.Moment.{MapThere, Moment, TableThere}
use Rattle.run_schedules.specs.Schedules.Views.{map_at}
use Rattle.run_logged.specs.Given.MomentsNumbers.{AreFound}
use Rattle.run_logged.proofs.Given.MomentsNumbers.{maps_go}
use Rattle.play_lists.specs.Given.RemainsNumbered.{NumbersUpTo}
use Rattle.run_schedules.specs.Deeds.Deeds.{come, named, without_map}

module _ {K V : Type 0} (count : ℕ) where
  -- of maps and tables alone
  pub counted_again : (m v : Moment K V) → v.maps ≡ m.maps → v.tables ≡ m.tables → NumbersUpTo count m → NumbersUpTo count v
  counted_again m v maps tables n = record {
    found = subst (λ (ms : List MapThere). All (λ there. find (λ f. f.number == there.number) ms ≡ Some there) ms) (sym maps) n.found;
    below = subst (λ (ms : List MapThere). All (λ there. there.number < count) ms) (sym maps) n.below;
    tables = subst (λ (ts : List TableThere). All (λ t. t.table.map < count) ts) (sym tables) n.tables;
  }

  -- where one is there no more
  pub counted_gone : (own : ℕ) (m : Moment K V) → NumbersUpTo count m → NumbersUpTo count (record m { maps = without_map own m.maps })
  counted_gone own m n =
      let gone = maps_go K V (record m { made = count }) n (named own) m.remains in record { found = gone.found; below = gone.below; tables = gone.tables }

  -- and where one comes whose number none had
  pub counted_come : (f : MapThere) (m : Moment K V) → map_at f.number m ≡ None → f.number < count → NumbersUpTo count m → NumbersUpTo count (come f m)
  counted_come f m unknown below n = record {
    found = All-append Then m.maps (f ∷ []) (λ k d l. still _ (n.found k d l)) (All-cons Then f [] itself (λ k d l. absurd (omega (arith, l))));
    below = All-append (λ (g : MapThere). g.number < count) m.maps (f ∷ []) n.below (All-cons (λ (g : MapThere). g.number < count) f [] below (λ k d l. absurd (omega (arith, l))));
    tables = n.tables;
  }
    where
      Then : MapThere → Type 0
      Then g = find (λ (h : MapThere). h.number == g.number) (m.maps ++ f ∷ []) ≡ Some g

      still : (g : MapThere) → map_at g.number m ≡ Some g → Then g
      still g is = find-append (λ (h : MapThere). h.number == g.number) m.maps (f ∷ []) ∙ ap (λ o. option_or o (find (λ (h : MapThere). h.number == g.number) (f ∷ []))) is

      itself : Then f
      itself =
          find-append (λ (h : MapThere). h.number == f.number) m.maps (f ∷ []) ∙ ap (λ o. option_or o (find (λ (h : MapThere). h.number == f.number) (f ∷ []))) unknown
          ∙ ap (λ z. cond z (Some f) None) (eq-eqb f.number f.number refl)

  -- each is found by its number
  pub all_found : (m : Moment K V) → NumbersUpTo count m → AreFound m
  all_found m n = n.found
