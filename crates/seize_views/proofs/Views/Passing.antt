-- A seat leans on one that has a section open: it begins, looks at roots, marks them, and ends; and what it has seen that one keeps meanwhile.
use Rattle.std.specs.Prelude.{◌≢◌, ◌<◌, ◌^◌, Option, Some, None, IsSome, bit_or}
use Rattle.std.proofs.Common.{◌≡◌, ℕ, true, inl, inr, refl, sym, subst, ap, ◌∙◌}
use Rattle.std.proofs.lemmas.Bool.{ne_eqb}
use Rattle.seize_words.specs.OneMemory.Mem.{Mem, Can, Took, value_at, word_at}
use Rattle.seize_words.specs.OneMemory.Word.{block_in}
use Rattle.seize_words.specs.OneMemory.Op.{Op, Out, Load, Or, Found, Stored, Exchanged, Made as OutMade, Taken, Roomed}
use Rattle.seize_words.specs.declared.at.At.TheVariants.{Root}
use Rattle.seize.specs.Law.{holds}
use Rattle.seize.specs.World.{World, IsInside}
use Rattle.seize_acts.proofs.Given.SeizeAloneHistories.NotTaken.{IsHeld, kept_there}
use Rattle.seize_seats.specs.Seats.State.{State, view_of, Allows, Goes}
use Rattle.seize_views.specs.Views.Rows.{Leads, Holds}
use Rattle.seize_views.specs.Views.Told.{told}
use Rattle.seize_views.specs.Views.Watched.{open_at, is_watching, IsBase}
use Rattle.seize_views.specs.Views.Notes.{noted, as_known, deed, NotedHolds, NotedKeeps, noted_observed, SameNotes, LeaningsBegin, LeaningsSee, LeaningsMark, LeaningsEnd, LeaningsKeep, KeptAreThere}
use Rattle.seize_views.specs.declared.view.Noted.{Noted}
use Rattle.seize_views.specs.declared.view.Began.{Began}
use Rattle.seize_views.specs.declared.view.Deed.{Deed}
use Rattle.seize_views.specs.declared.view.SlotView.{SlotView}
use Rattle.seize_views.specs.declared.view.SlotView.TheVariants.{Rests, Watches, Under}
use Rattle.seize_views.specs.declared.view.Has.TheVariants.{Nothing}
use Rattle.seize_views.specs.declared.view.Fixed.{Fixed}
use Rattle.seize_views.proofs.Views.Came.{reached}
use Rattle.seize_views.proofs.Views.Guarding.{aside_on}
use Rattle.seize_views.proofs.Views.Notes.{seen_at, goes}
use Rattle.seize_views.proofs.Views.Roots.{root_held, marked, marked_named, marked_found}
use Rattle.seize_views.proofs.Views.Users.{users_on}
use Rattle.seize_views.proofs.Views.Watched.{open_inside}
use Rattle.seize_views.proofs.Views.Written.{rooted_still, links_stay, chains_still, root_can}
use Rattle.seize_words.proofs.General.{same_some}

module _ {T : Type 0} where
  -- of a view that leans on a seat: which one, of which slot, and what it has seen
  abbrev seat_in : SlotView T → ℕ
  seat_in (Under n t b) = n
  seat_in _ = 0

  abbrev slot_in : SlotView T → ℕ
  slot_in (Under n t b) = t
  slot_in _ = 0

  abbrev block_seen : SlotView T → ℕ
  block_seen (Under n t b) = b
  block_seen _ = 0

  -- it watches nothing
  not_watching : (x : SlotView T) (n t b s c : ℕ) → x ≡ Under n t b → x ≡ Watches s c → ⊥
  not_watching x n t b s c e f = let k : Under n t b ≡ Watches s c = sym e ∙ f in cc k

module _ {T : Type 0} (defers : T → Option ℕ) (fixed : Fixed) where
  abbrev N : State T (Noted T) (World T) → Type 0
  N = NotedHolds defers fixed

  module _ (s : State T (Noted T) (World T)) (h : N s) where
    -- the section of who is leant on is open
    base_inside : (n t : ℕ) → IsBase s.views n t → IsInside (s.world.uses t)
    base_inside n t base = open_inside s.world base.0.knows t base.2 (h.0.seats n base.0.knows (seen_at defers fixed s n base.0 base.1)).slot

    -- it is another seat
    other_seat : (n t id : ℕ) (v : Noted T) → IsBase s.views n t → view_of s id ≡ Some v → open_at v.knows ≡ None → n ≢ id
    other_seat n t id v base at none same =
        let e : base.0 ≡ v = same_some base.0 v (sym base.1 ∙ ap (λ (k : ℕ). view_of s k) same ∙ at) in
        let shut = ap (λ (x : Noted T). open_at x.knows) e ∙ none in let found = base.2 in cc (shut, found)

  -- what a root names is seen
  sees : (s : State T (SlotView T) (World T)) (id n t b r : ℕ) (h : Holds defers fixed s) (at : view_of s id ≡ Some (Under n t b)) (out : Out T) (m : Mem T)
      → Took s.memory (Load (Root r)) out m → Leads defers fixed s m id (told defers (Under n t b) (Load (Root r)) out)
  sees s id n t b r h at (Found word) m took =
      aside_on defers fixed s id (Under n t b) (Under n t (block_in word)) h at refl refl refl tt refl refl tt tt tt m took.1
      (told defers (Under n t b) (Load (Root r)) (Found word)) refl
  sees s id n t b r h at Stored m took = absurd took.0
  sees s id n t b r h at (Exchanged x) m took = absurd took.0
  sees s id n t b r h at (OutMade x) m took = absurd took.0
  sees s id n t b r h at (Taken x) m took = absurd took.0
  sees s id n t b r h at (Roomed x) m took = absurd took.0

  -- its word is marked, and what that names is seen
  marks : (s : State T (SlotView T) (World T)) (id n t b r bits : ℕ) → r < fixed.roots → bits < 2 ^ 11 → (h : Holds defers fixed s) (at : view_of s id ≡ Some (Under n t b)) (out : Out T) (m : Mem T)
      → Took s.memory (Or (Root r) bits) out m → Leads defers fixed s m id (told defers (Under n t b) (Or (Root r) bits) out)
  marks s id n t b r bits plain small h at (Found word) m took =
      let v : SlotView T = Under n t b in let over = marked defers fixed s id v h at r bits word m small took in
      users_on defers fixed s id 0 v (Under n t (block_in word)) h at refl refl refl tt m (record s.world { memory = m }) Nothing (record {
        since = over.since;
        memory = refl;
        row = refl;
        uses = refl;
        in_hand = tt;
        hands = λ j c x ne e q. refl;
        sole = λ j c x ne e q p. cc p;
        values = λ c its some some2. over.values c;
        links = links_stay defers fixed s id v h at r (bit_or word bits) word m over;
        chains = chains_still defers fixed s id v h at r (bit_or word bits) word m plain over;
        held = λ a c held. held;
        over = λ a c held. refl;
        roots = marked_named defers fixed s id v h at r bits word m small took;
        rooted = rooted_still defers fixed s id v h at r (bit_or word bits) word m over;
        passes = over.passes;
      }) (λ c. marked_found defers fixed s id v h at r bits word m small took None c (λ e. absurd (cc e))) refl tt tt tt (told defers v (Or (Root r) bits) (Found word)) refl
  marks s id n t b r bits plain small h at Stored m took = absurd took.0
  marks s id n t b r bits plain small h at (Exchanged x) m took = absurd took.0
  marks s id n t b r bits plain small h at (OutMade x) m took = absurd took.0
  marks s id n t b r bits plain small h at (Taken x) m took = absurd took.0
  marks s id n t b r bits plain small h at (Roomed x) m took = absurd took.0

  -- an operation at a root by which a seat that leans sees what that names
  record Sees (id n t b r : ℕ) (op : Op T) : Type 0 where
    pub can : (m : Mem T) → IsSome (word_at m (Root r)) → Can m op
    pub leads : (s : State T (SlotView T) (World T)) → Holds defers fixed s → view_of s id ≡ Some (Under n t b) → (out : Out T) (m : Mem T) → Took s.memory op out m
        → Leads defers fixed s m id (told defers (Under n t b) op out)
    pub tells : (m m2 : Mem T) (out : Out T) → Took m op out m2 → (u : SlotView T) → told defers (Under n t b) op out u
        → (word : ℕ) × (word_at m (Root r) ≡ Some word) × (u ≡ Under n t (block_in word))

  by_load : (id n t b r : ℕ) → Sees id n t b r (Load (Root r))
  by_load id n t b r = record { can = λ m some. some; leads = λ s h at out m took. sees s id n t b r h at out m took; tells = λ m m2 out took u is. tells m m2 out took u is }
    where
      tells : (m m2 : Mem T) (out : Out T) → Took m (Load (Root r)) out m2 → (u : SlotView T) → told defers (Under n t b) (Load (Root r)) out u
          → (word : ℕ) × (word_at m (Root r) ≡ Some word) × (u ≡ Under n t (block_in word))
      tells m m2 (Found word) took u is = (word, took.0, is)
      tells m m2 Stored took u is = absurd is
      tells m m2 (Exchanged y) took u is = absurd is
      tells m m2 (OutMade y) took u is = absurd is
      tells m m2 (Taken y) took u is = absurd is
      tells m m2 (Roomed y) took u is = absurd is

  by_or : (id n t b r bits : ℕ) → r < fixed.roots → bits < 2 ^ 11 → Sees id n t b r (Or (Root r) bits)
  by_or id n t b r bits plain small = record { can = λ m some. some; leads = λ s h at out m took. marks s id n t b r bits plain small h at out m took; tells = λ m m2 out took u is. tells m m2 out took u is }
    where
      tells : (m m2 : Mem T) (out : Out T) → Took m (Or (Root r) bits) out m2 → (u : SlotView T) → told defers (Under n t b) (Or (Root r) bits) out u
          → (word : ℕ) × (word_at m (Root r) ≡ Some word) × (u ≡ Under n t (block_in word))
      tells m m2 (Found word) took u is = (word, took.0, is)
      tells m m2 Stored took u is = absurd is
      tells m m2 (Exchanged y) took u is = absurd is
      tells m m2 (OutMade y) took u is = absurd is
      tells m m2 (Taken y) took u is = absurd is
      tells m m2 (Roomed y) took u is = absurd is

  module _ (id n t b r : ℕ) (op : Op T) (by : Sees id n t b r op) (did : Deed T) (began : Began) (guards : ℕ) where
    abbrev me : Noted T
    me = noted (Under n t b) did began guards

    -- it is under that seat still, and has seen this
    record Saw (s : State T (Noted T) (World T)) (u : SlotView T) : Type 0 where
      pub block : ℕ
      pub view : u ≡ Under n t block
      pub held : block ≢ 0 → holds t block s.world.log ≡ true

    saw : (s : State T (Noted T) (World T)) (h : N s) (at : view_of s id ≡ Some me) (out : Out T) (m : Mem T) → Took s.memory op out m
        → (u : SlotView T) → told defers (Under n t b) op out u → Saw s u
    saw s h at out m took u is =
        let k = by.tells s.memory m out took u is in
        record {
          block = block_in k.0;
          view = k.2;
          held = λ some. root_held defers fixed (as_known s) t h.0 (base_inside s h n t (h.1.leaned.based id n t b me at refl)) r k.0 k.1
              (ne_eqb (block_in k.0) 0 some);
        }

    may_see : r < fixed.roots → Allows N NotedKeeps id me op (noted_observed defers me op)
    may_see lt s h at =
        let here = seen_at defers fixed s id me at in let base = h.1.leaned.based id n t b me at refl in (
          by.can s.memory (root_can defers fixed (as_known s) id (Under n t b) h.0 here r lt),
          λ out m took.
              let g = by.leads (as_known s) h.0 here out m took in let k = saw s h at out m took g.0 g.5 in
              goes defers fixed s h m id me at (told defers (Under n t b) op out) (deed (Under n t b) did op out) began
              (λ u is x. ap (is_watching x) (saw s h at out m took u is).view)
              (λ u is. inr (inl refl)) g
              (λ x c e some. absurd (not_watching g.0 n t k.block x c k.view e))
              (λ j x c e.
              let f : Under n t k.block ≡ Under j x c = sym k.view ∙ e in
              let bound = subst (λ (p : ℕ × ℕ). IsBase s.views p.0 p.1) (λ i. (seat_in (f i), slot_in (f i))) base in (
                other_seat s h j x id me bound at refl,
                bound,
                λ some. subst (λ (p : ℕ × ℕ). holds p.0 p.1 g.1.log ≡ true) (λ i. (slot_in (f i), block_seen (f i)))
                    (g.4 t k.block (base_inside s h n t base) (k.held (λ z. some (sym (ap block_seen f) ∙ z)))),
              )) (inr (inl refl)),
        )

  -- what it notes then is what it has noted before
  noted_so : (s : State T (Noted T) (World T)) (i : ℕ) (v : Noted T) (x : SlotView T)
      → Goes N NotedKeeps s s.memory i (λ w. (w.knows ≡ x) × (w.did ≡ v.did) × (w.began ≡ v.began) × (w.guards ≡ v.guards))
      → Goes N NotedKeeps s s.memory i (λ w. (w.knows ≡ x) × SameNotes v w)
  noted_so s i v x g = (g.0, g.1, g.2, g.3, (g.4.0, (g.4.1, g.4.2, g.4.3)))

  -- a seat begins to lean on another one
  begins : (i j t : ℕ) (v u : Noted T) → v.knows ≡ Rests → open_at u.knows ≡ Some t → (s : State T (Noted T) (World T)) → N s → view_of s i ≡ Some v → view_of s j ≡ Some u
      → i ≢ j → Goes N NotedKeeps s s.memory i (λ w. (w.knows ≡ Under j t 0) × SameNotes v w)
  begins i j t v u rests is_open s h at_i at_j ne =
      let at = seen_at defers fixed s i v at_i ∙ ap Some rests in
      let g = aside_on defers fixed (as_known s) i Rests (Under j t 0) h.0 at refl refl refl tt refl refl tt tt tt s.memory refl (λ x. x ≡ Under j t 0) refl in
      noted_so s i v (Under j t 0)
      (goes defers fixed s h s.memory i v at_i (λ x. x ≡ Under j t 0) v.did v.began (λ x is k. ap (is_watching k) is ∙ sym (ap (is_watching k) rests))
      (λ x is. inr (inl (ap open_at rests))) g (λ x c e some. absurd (not_watching g.0 j t 0 x c g.5 e))
      (λ n x c e.
      let f : Under j t 0 ≡ Under n x c = sym g.5 ∙ e in (
        λ z. ne (sym (ap seat_in f ∙ z)),
        subst (λ (p : ℕ × ℕ). IsBase s.views p.0 p.1) (λ k. (seat_in (f k), slot_in (f k))) (u, at_j, is_open),
        λ some. absurd (some (sym (ap block_seen f))),
      )) (inr (inl (ap open_at rests))))

  -- and leans on it no longer
  ends : (i n t b : ℕ) (v : Noted T) → v.knows ≡ Under n t b → (s : State T (Noted T) (World T)) → N s → view_of s i ≡ Some v
      → Goes N NotedKeeps s s.memory i (λ w. (w.knows ≡ Rests) × SameNotes v w)
  ends i n t b v is s h at_i =
      let at = seen_at defers fixed s i v at_i ∙ ap Some is in
      let g = aside_on defers fixed (as_known s) i (Under n t b) Rests h.0 at refl refl refl tt refl refl tt tt tt s.memory refl (λ x. x ≡ Rests) refl in
      noted_so s i v Rests
      (goes defers fixed s h s.memory i v at_i (λ x. x ≡ Rests) v.did v.began (λ x e k. ap (is_watching k) e ∙ sym (ap (is_watching k) is))
      (λ x e. inr (inl (ap open_at is))) g (λ x c e some. absurd (let f : Rests ≡ Watches x c = sym g.5 ∙ e in cc f))
      (λ m x c e. absurd (let f : Rests ≡ Under m x c = sym g.5 ∙ e in cc f)) (inr (inl (ap open_at is))))

module _ (T : Type 0) (defers : T → Option ℕ) where
  pub leanings_begin : LeaningsBegin T defers
  leanings_begin fixed i j t v u rests is_open s h at_i at_j ne =
      let g = begins defers fixed i j t v u rests is_open s h at_i at_j ne in
      (g.0, g.1, g.2, g.3, λ x found. (g.4.0 ∙ ap (λ (k : ℕ). Under j k 0) (same_some t x (sym is_open ∙ found)), g.4.1))

  pub leanings_see : LeaningsSee T defers
  leanings_see fixed id n t b r v is lt =
      subst (λ (x : SlotView T). Allows (NotedHolds defers fixed) NotedKeeps id (noted x v.did v.began v.guards) (Load (Root r))
      (noted_observed defers (noted x v.did v.began v.guards) (Load (Root r)))) (sym is)
      (may_see defers fixed id n t b r (Load (Root r)) (by_load defers fixed id n t b r) v.did v.began v.guards lt)

  pub leanings_mark : LeaningsMark T defers
  leanings_mark fixed id n t b r bits v is small lt =
      subst (λ (x : SlotView T). Allows (NotedHolds defers fixed) NotedKeeps id (noted x v.did v.began v.guards) (Or (Root r) bits)
      (noted_observed defers (noted x v.did v.began v.guards) (Or (Root r) bits))) (sym is)
      (may_see defers fixed id n t b r (Or (Root r) bits) (by_or defers fixed id n t b r bits lt small) v.did v.began v.guards lt)

  pub leanings_end : LeaningsEnd T defers
  leanings_end fixed id n t b v is s h at = ends defers fixed id n t b v is s h at

  pub leanings_keep : LeaningsKeep T defers
  leanings_keep fixed i n t b v u is some s h at_i at_j at_k =
      let base = h.1.leaned.based i n t b v at_i is in let same : base.0 ≡ u = same_some base.0 u (sym base.1 ∙ at_j) in
      (t, sym (ap (λ (x : Noted T). open_at x.knows) same) ∙ base.2, h.1.leaned.seen i n t b v at_i is some)

  pub kept_are_there : KeptAreThere T defers
  kept_are_there fixed s j u k o b h at_j at_k keeps =
      subst (λ (m : Mem T). IsSome (value_at m b)) (sym h.0.memory)
      (kept_there defers fixed.batch_size s.world (reached defers fixed s.world h.0.came) b (IsHeld keeps.0 keeps.2))
