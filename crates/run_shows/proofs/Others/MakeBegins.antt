-- Where the making of a map begins, and where its map is there by its number, all is shown as before.
use Rattle.std.specs.Prelude.{◌≡◌, ◌==◌, Bool, true, false, cond, List, [], ◌∷◌, ◌++◌, find, Some}
use Rattle.std.proofs.Common.{ap, sym, ◌∙◌, refl}
use Rattle.run_shows.specs.Others.Makings.{MakingsBeginShown, MapsAreThere}

-- what is found is found first where more follows
found_before : {X : Type 0} (test : X → Bool) (xs ys : List X) (x : X) → find test xs ≡ Some x → find test (xs ++ ys) ≡ Some x
found_before test [] ys x is = absurd (cc is)
found_before test (y ∷ xs) ys x is = by (test y) refl (λ later. found_before test xs ys x later)
  where
    by : (q : Bool) → test y ≡ q → (find test xs ≡ Some x → find test (xs ++ ys) ≡ Some x) → find test (y ∷ xs ++ ys) ≡ Some x
    by true e later =
        let here : cond true (Some y) (find test xs) ≡ Some x = ap (λ z. cond z (Some y) (find test xs)) (sym e) ∙ is in
        ap (λ z. cond z (Some y) (find test (xs ++ ys))) e ∙ here
    by false e later = ap (λ z. cond z (Some y) (find test (xs ++ ys))) e ∙ later (ap (λ z. cond z (Some y) (find test xs)) (sym e) ∙ is)

module _ (K V : Type 0) (same : K → K → Bool) where
  pub makings_begin_shown : MakingsBeginShown K V same
  makings_begin_shown name m known s shown i b = record {
    shows = record { blocks = shown.blocks; number = shown.number; maps = shown.maps; calls = shown.calls };
    numbers = λ n st e. refl;
  }

  pub maps_are_there : MapsAreThere K V same
  maps_are_there name m known s shown there = record {
    shows = record {
      blocks = record { roles = shown.blocks.roles; once = shown.blocks.once; stored = shown.blocks.stored };
      number = shown.number;
      maps = λ n st is.
          let it = shown.maps n st is in
          record {
            there = record {
              there = it.there.there;
              is = found_before (λ f. f.number == n) m.maps (there ∷ []) it.there.there it.there.is;
              root = it.there.root;
              mode = it.there.mode;
              first = it.there.first;
            };
            pairs = record { roles = it.pairs.roles; numbered = it.pairs.numbered; rising = it.pairs.rising; born = it.pairs.born; here = it.pairs.here; all = it.pairs.all };
            tables = record { roles = it.tables.roles; stage = it.tables.stage; listed = it.tables.listed; linked = it.tables.linked };
            counter = it.counter;
          };
      calls = shown.calls;
    };
    numbers = λ n st e. refl;
  }
