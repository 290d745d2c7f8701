-- One more map stands, or one more call is under way on one of them.
use Rattle.std.specs.Prelude.{◌≡◌, ◌≢◌, ℕ, Bool, Option, Some, None}
use Rattle.std.proofs.Common.{refl, sym, subst, ◌∙◌, inl, inr}
use Rattle.std.proofs.lemmas.Bool.{cases_eq}
use Rattle.std.specs.Int.{IsPowerOfTwo}
use Rattle.many_calls.specs.Given.SeizeWorld.{with_at}
use Rattle.many_calls.specs.Given.PointsSteps.{AreLawful}
use Rattle.many_maps.specs.Maps.{Standing, new_map, NoMapsBegin, MapsCome, CallsBeginInMaps}
use Rattle.many_calls.specs.Together.{CameAbout}
use Rattle.many_maps.proofs.Beside.Maps.All.{StandsSo, maps_with_call}
use Rattle.many_calls.proofs.Together.At.{at_other, at_same}
use Rattle.many_calls.proofs.Together.MapStands.{map_begins_together}
use Rattle.many_calls.proofs.Together.Begins.{begins_together}
use Rattle.many_calls.proofs.Given.General.{same_some as one_of}

module _ {K Q : Type 0} (V : Type 0) (same : K → K → Bool) (asks : Q → K → Bool) (size : ℕ) (slot : ℕ → ℕ) where
  pub no_maps_begin : NoMapsBegin {Q = Q} V same asks size slot
  no_maps_begin w came = record {
    came = came;
    each = λ m s h. absurd (cc h);
    fit = λ m s h. absurd (cc h);
    roots = λ m n s r ne h g e. cc h;
    counters = λ m n s r ne h g e. cc h;
    only = λ m i h. refl;
    once = λ m n i h g. absurd (h refl);
  }

  -- what is so of all maps but one, and of that one, is so of all
  module _ (maps : ℕ → Option (Standing K)) (m : ℕ) (new : Standing K) where
    pub each_at : (P : ℕ → Standing K → Type 0) → P m new → ((n : ℕ) (s : Standing K) → n ≢ m → maps n ≡ Some s → P n s) → (n : ℕ) (s : Standing K) → with_at maps m (Some new) n ≡ Some s → P n s
    each_at P its others n s h = elim (cases_eq n m) as (λ _. P n s) [
      | inl e ↦ subst (λ (x : Standing K). P n x) (one_of new s (sym (at_same maps m (Some new) n e) ∙ h)) (subst (λ (x : ℕ). P x new) (sym e) its)
      | inr ne ↦ others n s ne (sym (at_other maps m (Some new) n ne) ∙ h)
    ]

    -- and of two of them
    pub two_at : (P : Standing K → Standing K → Type 0) → ((n : ℕ) (s : Standing K) → n ≢ m → maps n ≡ Some s → P new s) → ((n : ℕ) (s : Standing K) → n ≢ m → maps n ≡ Some s → P s new)
        → ((n k : ℕ) (s r : Standing K) → n ≢ k → maps n ≡ Some s → maps k ≡ Some r → P s r)
        → (n k : ℕ) (s r : Standing K) → n ≢ k → with_at maps m (Some new) n ≡ Some s → with_at maps m (Some new) k ≡ Some r → P s r
    two_at P first second both n k s r ne h g =
        each_at (λ x y. x ≢ k → P y r)
        (λ other. each_at (λ x y. m ≢ x → P new y) (λ same_map. absurd (same_map refl)) (λ x y apart is _. first x y apart is) k r g other)
        (λ x y apart is other. each_at (λ z v. x ≢ z → P y v) (λ _. second x y apart is) (λ z v _ has differ. both x z y v differ is has) k r g other)
        n s h ne

    pub none_at : (n : ℕ) → with_at maps m (Some new) n ≡ None → maps n ≡ None
    none_at n h = elim (cases_eq n m) as (λ _. maps n ≡ None) [
      | inl e ↦ (let at = at_same maps m (Some new) n e in absurd (cc (at, h)))
      | inr ne ↦ sym (at_other maps m (Some new) n ne) ∙ h
    ]

  pub maps_come : MapsCome {Q = Q} V same asks size slot
  maps_come w maps calls all m none setting hash lawful initial is root counter shards making apart = record {
    came = all.came;
    each = each_at maps m (new_map setting hash) (λ n s. StandsSo V same asks size slot w s (calls n)) new (λ n s ne is. all.each n s is);
    fit = each_at maps m (new_map setting hash) (λ n s. AreLawful same s.hash × IsPowerOfTwo s.setting.initial × (s.setting.batch_size ≡ size)) (lawful, initial, is) (λ n s ne is. all.fit n s is);
    roots = two_at maps m (new_map setting hash) (λ s r. s.setting.root ≢ r.setting.root) (λ n s ne is. (apart n s is).0) (λ n s ne is e. (apart n s is).0 (sym e)) all.roots;
    counters = two_at maps m (new_map setting hash) (λ s r. s.setting.counter ≢ r.setting.counter) (λ n s ne is. (apart n s is).1) (λ n s ne is e. (apart n s is).1 (sym e)) all.counters;
    only = λ n i h. all.only n i (none_at maps m (new_map setting hash) n h);
    once = all.once;
  }
    where
      -- nobody has a call on it
      new : StandsSo V same asks size slot w (new_map setting hash) (calls m)
      new = map_begins_together V same hash asks setting slot w (calls m) (λ i. all.only m i none) (subst (λ (n : ℕ). CameAbout n w) (sym is) all.came) root counter shards making

  pub calls_begin_in_maps : CallsBeginInMaps V same asks size slot
  calls_begin_in_maps w maps calls all i alone rests inside m s here keys pair call begun few =
      maps_with_call V same asks size slot w maps calls all m s here i _ (λ n ne. alone n)
      (begins_together same s.hash asks s.setting slot w s.chart s.blocks s.sights (calls m) i (all.fit m s here).0 (all.each m s here) (alone m) rests inside keys pair call begun few)
