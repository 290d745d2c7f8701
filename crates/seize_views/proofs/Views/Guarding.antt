-- A seat watches the open section of another one's slot: it begins, looks at roots, is shown what it has seen, and ends.
use Rattle.std.specs.Prelude.{◌≢◌, ◌<◌, Option, Some, None, IsSome, map, slice_set, ◌==◌}
use Rattle.std.proofs.Common.{◌≡◌, ℕ, ◌+◌, ◌-◌, true, [], inl, inr, refl, sym, subst, ap, ◌∙◌, arith}
use Rattle.std.proofs.lemmas.Bool.{eq-eqb, ne_eqb}
use Rattle.seize_words.specs.OneMemory.Mem.{Mem, Took, value_at}
use Rattle.seize_words.specs.OneMemory.Word.{block_in}
use Rattle.seize_words.specs.OneMemory.Op.{Op, Out, Load, Found, Stored, Exchanged, Made as OutMade, Taken, Roomed}
use Rattle.seize_words.specs.declared.at.At.TheVariants.{Root}
use Rattle.seize.specs.Law.{holds}
use Rattle.seize.specs.World.{World}
use Rattle.seize.specs.World as world
use Rattle.seize_acts.proofs.Given.SeizeAloneHistories.NotTaken.{IsHeld, kept_there}
use Rattle.seize_seats.specs.Seats.State.{State, view_of, Allows}
use Rattle.seize_seats.specs.Seats.Lendings.{VisibleTo}
use Rattle.seize_views.specs.Views.Rows.{Leads, Holds, row_of, use_of, hand_of, IsShort, IsKnown, IsItsOwn, IsBounded}
use Rattle.seize_views.specs.Views.Told.{told}
use Rattle.seize_views.specs.Views.Watched.{one, open_at, is_watching, LeansOn, watchers, watching, known_by}
use Rattle.seize_views.specs.Views.Notes.{noted, as_known, deed, NotedHolds, NotedKeeps, noted_observed, Begins, Ends, WatchesBegin, WatchesEnd, WatchersSee, WatchedAreShown}
use Rattle.seize_views.specs.declared.view.Noted.{Noted}
use Rattle.seize_views.specs.declared.view.Began.{Began}
use Rattle.seize_views.specs.declared.view.Deed.{Deed}
use Rattle.seize_views.specs.declared.view.SlotView.{SlotView}
use Rattle.seize_views.specs.declared.view.SlotView.TheVariants.{Rests, Watches}
use Rattle.seize_views.specs.declared.view.Has.TheVariants.{Nothing}
use Rattle.seize_views.specs.declared.view.Fixed.{Fixed}
use Rattle.seize_views.specs.Views.Resting.{open_leans}
use Rattle.seize_views.proofs.Views.Came.{reached}
use Rattle.seize_views.proofs.Views.Handing.{Meeting, met}
use Rattle.seize_views.proofs.Views.Notes.{seen_at, goes, meets}
use Rattle.seize_views.proofs.Views.Roots.{root_held}
use Rattle.seize_views.proofs.Views.Users.{stands}
use Rattle.seize_views.proofs.Views.Watched.{some_watch, watches_open}
use Rattle.seize_views.proofs.Views.Written.{root_can}
use Rattle.seize_words.proofs.General.{same_some}

module _ {T : Type 0} (defers : T → Option ℕ) (fixed : Fixed) where
  module _ (s : State T (SlotView T) (World T)) (i j : ℕ) (u : SlotView T) (h : Holds defers fixed s) (at_j : view_of s j ≡ Some u) (apart : i ≢ j) where
    begins_so : (t : ℕ) (at_i : view_of s i ≡ Some Rests) → Meeting defers fixed s i j Rests u h at_i at_j apart (Watches t 0) u
    begins_so t at_i = let f = h.seats i Rests at_i in record {
      one = record { row = f.row; slot = tt; short = tt; known = tt; its_own = tt };
      other = h.seats j u at_j;
      one_bound = tt;
      other_bound = h.bounded j u at_j;
      one_use = refl;
      other_use = refl;
      one_hand = refl;
      hands_on = λ c e. elim e as (λ _. hand_of u ≡ Some c) [
        | inl mine ↦ absurd (cc mine)
        | inr his ↦ his
      ];
      other_hand = λ c e. inr e;
    }

    ends_so : (t b : ℕ) (at_i : view_of s i ≡ Some (Watches t b)) → Meeting defers fixed s i j (Watches t b) u h at_i at_j apart Rests u
    ends_so t b at_i = let f = h.seats i (Watches t b) at_i in record {
      one = record { row = f.row; slot = tt; short = tt; known = tt; its_own = tt };
      other = h.seats j u at_j;
      one_bound = tt;
      other_bound = h.bounded j u at_j;
      one_use = refl;
      other_use = refl;
      one_hand = refl;
      hands_on = λ c e. elim e as (λ _. hand_of u ≡ Some c) [
        | inl mine ↦ absurd (cc mine)
        | inr his ↦ his
      ];
      other_hand = λ c e. inr e;
    }

  -- a seat that has no row under way and no block in its hand goes on, and the memory stays as it is
  pub aside_on : (s : State T (SlotView T) (World T)) (id : ℕ) (v x : SlotView T) (h : Holds defers fixed s) (at : view_of s id ≡ Some v) → row_of v ≡ world.Rests
      → row_of x ≡ world.Rests → use_of x ≡ use_of v → IsShort x → hand_of v ≡ None → hand_of x ≡ None → IsKnown defers s.world x → IsItsOwn s.world id x → IsBounded defers fixed s.world id x
      → (m : Mem T) → m ≡ s.memory → (so : SlotView T → Type 0) → so x → Leads defers fixed s m id so
  aside_on s id v x h at rests still same_use short empty hand known own bounded m same so is =
      stands defers fixed s id 0 v x h at rests still same_use short m same Nothing tt empty hand known own bounded so is

  -- who watches sees what a root names
  looks : (s : State T (SlotView T) (World T)) (id t b c : ℕ) (h : Holds defers fixed s) (at : view_of s id ≡ Some (Watches t b)) (m : Mem T) → m ≡ s.memory
      → (so : SlotView T → Type 0) → so (Watches t c) → Leads defers fixed s m id so
  looks s id t b c h at m same so is = aside_on s id (Watches t b) (Watches t c) h at refl refl refl tt refl refl tt tt tt m same so is

  sees : (s : State T (SlotView T) (World T)) (id t b r : ℕ) (h : Holds defers fixed s) (at : view_of s id ≡ Some (Watches t b)) (out : Out T) (m : Mem T)
      → Took s.memory (Load (Root r)) out m → Leads defers fixed s m id (told defers (Watches t b) (Load (Root r)) out)
  sees s id t b r h at (Found word) m took = looks s id t b (block_in word) h at m took.1 (told defers (Watches t b) (Load (Root r)) (Found word)) refl
  sees s id t b r h at Stored m took = absurd took.0
  sees s id t b r h at (Exchanged x) m took = absurd took.0
  sees s id t b r h at (OutMade x) m took = absurd took.0
  sees s id t b r h at (Taken x) m took = absurd took.0
  sees s id t b r h at (Roomed x) m took = absurd took.0

  -- ---- with what is noted
  abbrev N : State T (Noted T) (World T) → Type 0
  N = NotedHolds defers fixed

  abbrev slot_in : SlotView T → ℕ
  slot_in (Watches t b) = t
  slot_in _ = 0

  abbrev block_seen : SlotView T → ℕ
  block_seen (Watches t b) = b
  block_seen _ = 0

  module _ (id t b r : ℕ) (did : Deed T) (began : Began) (guards : ℕ) where
    abbrev me : Noted T
    me = noted (Watches t b) did began guards

    abbrev load : Op T
    load = Load (Root r)

    still_watches : (out : Out T) (u : SlotView T) → told defers (Watches t b) load out u → (x : ℕ) → is_watching x u ≡ is_watching {T = T} x (Watches t b)
    still_watches (Found word) u is x = ap (is_watching x) is
    still_watches Stored u is x = absurd is
    still_watches (Exchanged y) u is x = absurd is
    still_watches (OutMade y) u is x = absurd is
    still_watches (Taken y) u is x = absurd is
    still_watches (Roomed y) u is x = absurd is

    no_leaning : (out : Out T) (u : SlotView T) → told defers (Watches t b) load out u → (n : ℕ) → LeansOn u n → ⊥
    no_leaning (Found word) u is n leans = subst (λ (y : SlotView T). LeansOn y n) is leans
    no_leaning Stored u is n leans = is
    no_leaning (Exchanged y) u is n leans = is
    no_leaning (OutMade y) u is n leans = is
    no_leaning (Taken y) u is n leans = is
    no_leaning (Roomed y) u is n leans = is

    -- what it has seen the section holds
    seen_held : (s : State T (Noted T) (World T)) (h : N s) (at : view_of (as_known s) id ≡ Some (Watches t b)) (out : Out T) (m : Mem T)
        → Took s.memory load out m → (u : SlotView T) → told defers (Watches t b) load out u → (x c : ℕ) → u ≡ Watches x c → c ≢ 0
        → (x ≡ t) × (holds t c s.world.log ≡ true)
    seen_held s h at (Found word) m took u is x c e some =
        let f : Watches t (block_in word) ≡ Watches x c = sym is ∙ e in
        let same : block_in word ≡ c = ap block_seen f in (
          sym (ap slot_in f),
          subst (λ (k : ℕ). holds t k s.world.log ≡ true) same
              (root_held defers fixed (as_known s) t h.0 (watches_open defers fixed s.views (as_known s) h.0 h.1 id t b at) r word took.0
              (ne_eqb (block_in word) 0 (λ z. some (sym same ∙ z)))),
        )
    seen_held s h at Stored m took u is x c e some = absurd is
    seen_held s h at (Exchanged y) m took u is x c e some = absurd is
    seen_held s h at (OutMade y) m took u is x c e some = absurd is
    seen_held s h at (Taken y) m took u is x c e some = absurd is
    seen_held s h at (Roomed y) m took u is x c e some = absurd is

    may_see : r < fixed.roots → Allows N NotedKeeps id me load (noted_observed defers me load)
    may_see lt s h at =
        let here = seen_at defers fixed s id me at in (
          root_can defers fixed (as_known s) id (Watches t b) h.0 here r lt,
          λ out m took.
              let g = sees (as_known s) id t b r h.0 here out m took in
              goes defers fixed s h m id me at (told defers (Watches t b) load out) (deed (Watches t b) did load out) began
              (λ u is. still_watches out u is) (λ u is. inr (inl refl)) g
              (λ x c e some.
              let k = seen_held s h here out m took g.0 g.5 x c e some in
              let inside = watches_open defers fixed s.views (as_known s) h.0 h.1 id t b here in
              subst (λ (y : ℕ). holds y c g.1.log ≡ true) (sym k.0) (g.4 t c inside k.1))
              (λ n x c e. absurd (no_leaning out g.0 g.5 n (subst (λ (y : SlotView T). LeansOn y n) (sym e) refl))) (inr (inl refl)),
        )

  watched_shown : (id t b : ℕ) (v : Noted T) → v.knows ≡ Watches t b → b ≢ 0 → VisibleTo N id v b
  watched_shown id t b v is some s h at =
      let held = h.1.held id t b (seen_at defers fixed s id v at ∙ ap Some is) some in
      subst (λ (m : Mem T). IsSome (value_at m b)) (sym h.0.memory)
      (kept_there defers fixed.batch_size s.world (reached defers fixed s.world h.0.came) b (IsHeld t held))

  module _ (s : State T (Noted T) (World T)) (i j t : ℕ) (v u : Noted T) (h : N s) (at_i : view_of s i ≡ Some v) (at_j : view_of s j ≡ Some u) (ne : i ≢ j)
      (is_open : open_at u.knows ≡ Some t) where
    view_i : view_of (as_known s) i ≡ Some v.knows
    view_i = seen_at defers fixed s i v at_i

    view_j : view_of (as_known s) j ≡ Some u.knows
    view_j = seen_at defers fixed s j u at_j

    his : (x : ℕ) → open_at u.knows ≡ Some x → t ≡ x
    his x e = same_some t x (sym is_open ∙ e)

    begins : v.knows ≡ Rests → (p q : Noted T) × N record { memory = s.memory; views = slice_set (slice_set s.views i p) j q; world = s.world } × Begins v u p q
    begins e =
        let p : Noted T = noted (Watches t 0) v.did v.began v.guards in let q : Noted T = noted u.knows u.did u.began (u.guards + 1) in
        let rests : view_of (as_known s) i ≡ Some Rests = view_i ∙ ap Some e in (
          p,
          q,
          meets defers fixed s h i j v u p q at_i at_j ne
              (met defers fixed (as_known s) i j Rests u.knows h.0 rests view_j ne (Watches t 0) u.knows (begins_so (as_known s) i j u.knows h.0 view_j ne t rests))
              (record {
                one_guards = refl;
                one_open = sym (ap open_at e);
                other_open = refl;
                other_watch = λ x. refl;
                beside = λ x other. ne_eqb t x (λ z. other (is_open ∙ ap Some z)) ∙ sym (ap (is_watching x) e);
                balance = λ x is.
                    let k : one (is_watching x v.knows) ≡ 0 = ap (λ (y : SlotView T). one (is_watching x y)) e in
                    let m : one (t == x) ≡ 1 = ap one (eq-eqb t x (his x is)) in omega (arith, k, m);
                none = λ none. absurd (cc (none, is_open));
                one_seen = λ x b f some. absurd (some (sym (ap block_seen f)));
                other_seen = λ x b f some. f;
                one_upright = λ m leans. leans;
                other_upright = λ m leans. open_leans u.knows t m is_open leans;
              }),
          λ x is. (ap (λ (k : ℕ). Watches k 0) (his x is), refl, refl, refl, refl, refl),
        )

    ends : (b : ℕ) → v.knows ≡ Watches t b
        → (p q : Noted T) × N record { memory = s.memory; views = slice_set (slice_set s.views i p) j q; world = s.world } × Ends v u p q
    ends b e =
        let p : Noted T = noted Rests v.did v.began v.guards in let q : Noted T = noted u.knows u.did u.began (u.guards - 1) in
        let mine : view_of (as_known s) i ≡ Some (Watches t b) = view_i ∙ ap Some e in
        let some = some_watch t (map known_by s.views) i (Watches t b) mine (eq-eqb t t refl) in
        let many : u.guards ≡ watchers t (map known_by s.views) = h.1.counted j u at_j ∙ ap (watching (map known_by s.views)) is_open in
        let one_less : u.guards - 1 + 1 ≡ u.guards = less u.guards (λ z. some (sym many ∙ z)) in (
          p,
          q,
          meets defers fixed s h i j v u p q at_i at_j ne
              (met defers fixed (as_known s) i j (Watches t b) u.knows h.0 mine view_j ne Rests u.knows (ends_so (as_known s) i j u.knows h.0 view_j ne t b mine))
              (record {
                one_guards = refl;
                one_open = sym (ap open_at e);
                other_open = refl;
                other_watch = λ x. refl;
                beside = λ x other. sym (ap (is_watching x) e ∙ ne_eqb t x (λ z. other (is_open ∙ ap Some z)));
                balance = λ x is.
                    let k : one (is_watching x v.knows) ≡ 1 = ap (λ (y : SlotView T). one (is_watching x y)) e ∙ ap one (eq-eqb t x (his x is)) in omega (arith, k, one_less);
                none = λ none. absurd (cc (none, is_open));
                one_seen = λ x c f some. absurd (cc f);
                other_seen = λ x c f some. f;
                one_upright = λ m leans. leans;
                other_upright = λ m leans. open_leans u.knows t m is_open leans;
              }),
          (refl, refl, refl, refl, refl, one_less),
        )
      where
        less : (n : ℕ) → n ≢ 0 → n - 1 + 1 ≡ n
        less n some = omega (arith, some)

module _ (T : Type 0) (defers : T → Option ℕ) where
  pub watches_begin : WatchesBegin T defers
  watches_begin fixed i j t v u rests is_open s h at_i at_j ne = begins defers fixed s i j t v u h at_i at_j ne is_open rests

  pub watches_end : WatchesEnd T defers
  watches_end fixed i j t b v u watches is_open s h at_i at_j ne = ends defers fixed s i j t v u h at_i at_j ne is_open b watches

  pub watchers_see : WatchersSee T defers
  watchers_see fixed id t b r v is lt =
      subst (λ (x : SlotView T). Allows (NotedHolds defers fixed) NotedKeeps id (noted x v.did v.began v.guards) (Load (Root r))
      (noted_observed defers (noted x v.did v.began v.guards) (Load (Root r)))) (sym is)
      (may_see defers fixed id t b r v.did v.began v.guards lt)

  pub watched_are_shown : WatchedAreShown T defers
  watched_are_shown fixed id t b v is some = watched_shown defers fixed id t b v is some
