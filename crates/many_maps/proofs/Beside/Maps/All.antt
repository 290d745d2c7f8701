-- Maps that stand, each for itself, stand together, if they were so.
use Rattle.std.specs.Prelude.{◌≡◌, ◌≢◌, ℕ, Bool, Option, Some, None}
use Rattle.std.specs.Int.{IsPowerOfTwo}
use Rattle.std.proofs.Common.{refl, ap, sym, subst, ◌∙◌, inl, inr, ◌⊎◌}
use Rattle.std.proofs.lemmas.Bool.{cases_eq}
use Rattle.many_calls.specs.Given.SeizeWorld.{World, with_at}
use Rattle.many_calls.specs.Given.TablesDeclared.node.Node.{Node}
use Rattle.many_calls.specs.Given.RuleWords.{Blocks}
use Rattle.many_calls.specs.Given.PointsSteps.{AreLawful}
use Rattle.many_maps.specs.Maps.{Standing, IsSameMap, with_call, MapsTogether, AllMapsStand}
use Rattle.many_calls.specs.Sights.{Visible, IsPartOf}
use Rattle.many_calls.specs.Together.{UnderWay, HasCall, CameAbout, Together}
use Rattle.many_calls.proofs.Together.At.{at_other, at_same}
use Rattle.many_calls.proofs.Given.General.{same_some as one_of}

pub not_none : {X : Type 0} (x : X) (o : Option X) → o ≡ Some x → o ≢ None
not_none x o is none = cc (is, none)

module _ {K Q : Type 0} (V : Type 0) (same : K → K → Bool) (asks : Q → K → Bool) (size : ℕ) (slot : ℕ → ℕ) where
  -- the calls on this map stand together, by what may be looked at
  abbrev pub StandsSo : World (Node K V) → Standing K → (ℕ → Option (UnderWay K V Q)) → Type 0
  StandsSo w s calls = Together V same s.hash asks s.setting slot w s.chart s.blocks s.sights calls

  abbrev pub StandsSomehow : World (Node K V) → Standing K → (ℕ → Option (UnderWay K V Q)) → Type 0
  StandsSomehow w s calls = (blocks : Blocks) × (sights : ℕ → Visible) × Together V same s.hash asks s.setting slot w s.chart blocks sights calls × IsPartOf s.chart blocks s.blocks

  -- from such maps, in another world, and with other calls
  module _ (w : World (Node K V)) (maps : ℕ → Option (Standing K)) (calls : ℕ → ℕ → Option (UnderWay K V Q)) (all : MapsTogether V same asks size slot w maps calls)
      (w2 : World (Node K V)) (calls2 : ℕ → ℕ → Option (UnderWay K V Q)) (came : CameAbout size w2) (stands : (m : ℕ) (s : Standing K) → maps m ≡ Some s → StandsSomehow w2 s (calls2 m))
      (only : (m i : ℕ) → maps m ≡ None → calls2 m i ≡ None) (once : (m n i : ℕ) → HasCall (calls2 m) i → HasCall (calls2 n) i → m ≡ n) where
    -- the map, with what may be looked at of it then
    abbrev narrowed : (m : ℕ) (o : Option (Standing K)) → maps m ≡ o → Option (Standing K)
    narrowed m None e = None
    narrowed m (Some s) e = let t = stands m s e in Some (record s { blocks = t.0; sights = t.1 })

    abbrev maps2 : ℕ → Option (Standing K)
    maps2 m = narrowed m (maps m) refl

    -- it comes from the map that was there
    record From (m : ℕ) (s2 : Standing K) : Type 0 where
      s : Standing K
      is : maps m ≡ Some s
      it : s2 ≡ record s { blocks = (stands m s is).0; sights = (stands m s is).1 }

    from : (m : ℕ) (s2 : Standing K) (o : Option (Standing K)) (e : maps m ≡ o) → narrowed m o e ≡ Some s2 → From m s2
    from m s2 None e h = absurd (cc h)
    from m s2 (Some s) e h = record { s = s; is = e; it = sym (one_of _ s2 h) }

    came_from : (m : ℕ) (s2 : Standing K) → maps2 m ≡ Some s2 → From m s2
    came_from m s2 h = from m s2 (maps m) refl h

    is_same : (m : ℕ) (o : Option (Standing K)) (e : maps m ≡ o) → IsSameMap o (narrowed m o e)
    is_same m None e = refl
    is_same m (Some s) e = let t = stands m s e in (t.0, t.1, refl, t.3)

    was_none : (m : ℕ) (o : Option (Standing K)) (e : maps m ≡ o) → narrowed m o e ≡ None → o ≡ None
    was_none m None e h = refl
    was_none m (Some s) e h = absurd (cc h)

    pub all_stand : AllMapsStand V same asks size slot w2 maps calls2
    all_stand = (
      maps2,
      λ m. is_same m (maps m) refl,
      record {
        came = came;
        each = λ m s2 h. let f = came_from m s2 h in subst (λ (x : Standing K). StandsSo w2 x (calls2 m)) (sym f.it) (stands m f.s f.is).2;
        fit = λ m s2 h. let f = came_from m s2 h in
            subst (λ (x : Standing K). AreLawful same x.hash × IsPowerOfTwo x.setting.initial × (x.setting.batch_size ≡ size)) (sym f.it) (all.fit m f.s f.is);
        roots = λ m n s2 r2 ne h g. let f = came_from m s2 h in let k = came_from n r2 g in
            λ e. all.roots m n f.s k.s ne f.is k.is (ap (λ (x : Standing K). x.setting.root) (sym f.it) ∙ e ∙ ap (λ (x : Standing K). x.setting.root) k.it);
        counters = λ m n s2 r2 ne h g. let f = came_from m s2 h in let k = came_from n r2 g in
            λ e. all.counters m n f.s k.s ne f.is k.is (ap (λ (x : Standing K). x.setting.counter) (sym f.it) ∙ e ∙ ap (λ (x : Standing K). x.setting.counter) k.it);
        only = λ m i none. only m i (was_none m (maps m) refl none);
        once = once;
      },
    )

  -- Calls of which one is another one, or has ended.
  module _ (maps : ℕ → Option (Standing K)) (calls : ℕ → ℕ → Option (UnderWay K V Q)) (m i : ℕ) (it : Option (UnderWay K V Q)) where
    pub its_calls : with_call calls m i it m ≡ with_at (calls m) i it
    its_calls = at_same calls m (with_at (calls m) i it) m refl

    pub others_calls : (n : ℕ) → n ≢ m → with_call calls m i it n ≡ calls n
    others_calls n ne = at_other calls m (with_at (calls m) i it) n ne

    pub calls_only : ((n j : ℕ) → maps n ≡ None → calls n j ≡ None) → maps m ≢ None → (n j : ℕ) → maps n ≡ None → with_call calls m i it n j ≡ None
    calls_only only some n j none = elim (cases_eq n m) as (λ _. with_call calls m i it n j ≡ None) [
      | inl e ↦ absurd (some (ap maps (sym e) ∙ none))
      | inr ne ↦ ap (λ (f : ℕ → Option (UnderWay K V Q)). f j) (others_calls n ne) ∙ only n j none
    ]

    -- the caller has no other call
    module _ (once : (n k j : ℕ) → HasCall (calls n) j → HasCall (calls k) j → n ≡ k) (alone : (n : ℕ) → n ≢ m → calls n i ≡ None) where
      at_most : (n j : ℕ) → HasCall (with_call calls m i it n) j → ((n ≡ m) × (j ≡ i)) ⊎ HasCall (calls n) j
      at_most n j h = elim (cases_eq n m) as (λ _. ((n ≡ m) × (j ≡ i)) ⊎ HasCall (calls n) j) [
        | inl e ↦ elim (cases_eq j i) as (λ _. ((n ≡ m) × (j ≡ i)) ⊎ HasCall (calls n) j) [
          | inl f ↦ inl (e, f)
          | inr ne ↦ inr (λ none. h (ap (λ (x : ℕ). with_call calls m i it x j) e ∙ ap (λ (f : ℕ → Option (UnderWay K V Q)). f j) its_calls ∙ at_other (calls m) i it j ne ∙ ap (λ (x : ℕ). calls x j) (sym e) ∙ none))
        ]
        | inr ne ↦ inr (λ none. h (ap (λ (f : ℕ → Option (UnderWay K V Q)). f j) (others_calls n ne) ∙ none))
      ]

      -- a caller that has a call on a map has it on this one, if it is this caller
      its_map : (n j : ℕ) → j ≡ i → HasCall (calls n) j → n ≡ m
      its_map n j e h = elim (cases_eq n m) as (λ _. n ≡ m) [
        | inl same_map ↦ same_map
        | inr ne ↦ absurd (h (ap (calls n) e ∙ alone n ne))
      ]

      pub calls_once : (n k j : ℕ) → HasCall (with_call calls m i it n) j → HasCall (with_call calls m i it k) j → n ≡ k
      calls_once n k j h g = by (at_most n j h) (at_most k j g)
        where
          by : ((n ≡ m) × (j ≡ i)) ⊎ HasCall (calls n) j → ((k ≡ m) × (j ≡ i)) ⊎ HasCall (calls k) j → n ≡ k
          by (inl a) (inl b) = a.0 ∙ sym b.0
          by (inl a) (inr b) = a.0 ∙ sym (its_map k j a.1 b)
          by (inr a) (inl b) = its_map n j b.1 a ∙ sym b.0
          by (inr a) (inr b) = once n k j a b

  -- Nothing has changed but one call on one map, of a caller that has no other: with these calls the map stands, and so all do.
  module _ (w : World (Node K V)) (maps : ℕ → Option (Standing K)) (calls : ℕ → ℕ → Option (UnderWay K V Q)) (all : MapsTogether V same asks size slot w maps calls)
      (m : ℕ) (s : Standing K) (here : maps m ≡ Some s) (i : ℕ) (it : Option (UnderWay K V Q)) (alone : (n : ℕ) → n ≢ m → calls n i ≡ None)
      (stands : StandsSo w s (with_at (calls m) i it)) where
    each_with_call : (n : ℕ) (r : Standing K) → maps n ≡ Some r → StandsSo w r (with_call calls m i it n)
    each_with_call n r is = elim (cases_eq n m) as (λ _. StandsSo w r (with_call calls m i it n)) [
      | inl e ↦ subst (StandsSo w r) (sym (ap (with_call calls m i it) e ∙ its_calls maps calls m i it))
          (subst (λ (x : Standing K). StandsSo w x (with_at (calls m) i it)) (one_of s r (sym here ∙ ap maps (sym e) ∙ is)) stands)
      | inr ne ↦ subst (StandsSo w r) (sym (others_calls maps calls m i it n ne)) (all.each n r is)
    ]

    pub maps_with_call : MapsTogether V same asks size slot w maps (with_call calls m i it)
    maps_with_call = record {
      came = all.came;
      each = each_with_call;
      fit = all.fit;
      roots = all.roots;
      counters = all.counters;
      only = calls_only maps calls m i it all.only (not_none s (maps m) here);
      once = calls_once maps calls m i it all.once alone;
    }
