-- Where the end of a map begins, and where it is over, the other maps are shown as before.
use Rattle.std.specs.Prelude.{◌≡◌, ◌==◌, Bool, true, false, not, cond, List, [], ◌∷◌, filter, find, Some, None, if◌then◌else◌}
use Rattle.std.proofs.Common.{refl, ap, sym, subst, ◌∙◌, inl, inr}
use Rattle.std.proofs.lemmas.Bool.{cases_eq}
use Rattle.run_effects.specs.Given.RunsSame.{is_same}
use Rattle.many_maps.proofs.Given.CallersTogether.At.{at_other, at_same}
use Rattle.run_shows.specs.Follows.Maps.{RefinesMap}
use Rattle.run_shows.specs.Others.Endings.{EndingsBeginShown, EndingsAreOver}

module _ {X : Type 0} (test keep : X → Bool) where
  -- what is found and kept is found still
  pub found_still : (xs : List X) (x : X) → find test xs ≡ Some x → keep x ≡ true → find test (filter keep xs) ≡ Some x
  found_still [] x is kept = absurd (cc is)
  found_still (y ∷ xs) x is kept = by (test y) refl (keep y) refl (λ later. found_still xs x later kept)
    where
      Goal : Bool → Type 0
      Goal z = find test (if z then y ∷ filter keep xs else filter keep xs) ≡ Some x

      by : (p : Bool) → test y ≡ p → (q : Bool) → keep y ≡ q → (find test xs ≡ Some x → find test (filter keep xs) ≡ Some x) → Goal (keep y)
      by true e q g rest =
          let it : y ≡ x = (let here : cond true (Some y) (find test xs) ≡ Some x = ap (λ z. cond z (Some y) (find test xs)) (sym e) ∙ is in cc here) in
          subst Goal (sym (ap keep it ∙ kept)) (ap (λ z. cond z (Some y) (find test (filter keep xs))) e ∙ ap Some it)
      by false e true g rest = subst Goal (sym g) (ap (λ z. cond z (Some y) (find test (filter keep xs))) e ∙ rest (ap (λ z. cond z (Some y) (find test xs)) (sym e) ∙ is))
      by false e false g rest = subst Goal (sym g) (rest (ap (λ z. cond z (Some y) (find test xs)) (sym e) ∙ is))

module _ (K V : Type 0) (same : K → K → Bool) where
  pub endings_begin_shown : EndingsBeginShown K V same
  endings_begin_shown name m known s shown map i standing = record {
    shows = record {
      blocks = record { roles = shown.blocks.roles; once = shown.blocks.once; stored = shown.blocks.stored };
      number = shown.number;
      maps = λ n st is. elim (cases_eq n map) as (λ _. RefinesMap n (shown.number n) st m known) [
        | inl e ↦ absurd (let none = at_same s.maps map None n e in cc (none, is))
        | inr ne ↦ shown.maps n st (sym (at_other s.maps map None n ne) ∙ is)
      ];
      calls = shown.calls;
    };
    numbers = λ n st e. refl;
  }

  pub endings_are_over : EndingsAreOver K V same
  endings_are_over name m known s shown own remains others = record {
    shows = record {
      blocks = record { roles = shown.blocks.roles; once = shown.blocks.once; stored = shown.blocks.stored };
      number = shown.number;
      maps = λ n st is.
          let it = shown.maps n st is in
          let there = it.there.there in
          record {
            there = record {
              there = there;
              is = found_still (λ f. f.number == n) (λ f. not (is_same f.name own)) m.maps there it.there.is (ap not (others n st there is it.there.is));
              root = it.there.root;
              mode = it.there.mode;
              first = it.there.first;
            };
            pairs = record { roles = it.pairs.roles; numbered = it.pairs.numbered; rising = it.pairs.rising; born = it.pairs.born; here = it.pairs.here; all = it.pairs.all };
            tables = record { roles = it.tables.roles; stage = it.tables.stage; listed = it.tables.listed; linked = it.tables.linked };
            counter = it.counter;
          };
      calls = shown.calls;
    };
    numbers = λ n st e. refl;
  }
