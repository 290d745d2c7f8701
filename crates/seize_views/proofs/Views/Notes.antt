-- What holds of a state holds by what the seats know, whatever they note.
use Rattle.std.specs.Prelude.{◌≢◌, ◌++◌, ◌+◌, None, Option, Some, option_map, map, slice_get, slice_set}
use Rattle.std.proofs.Common.{◌≡◌, ℕ, zero, suc, Bool, true, ◌⊎◌, inl, inr, List, [], ◌∷◌, refl, sym, subst, ap, ◌∙◌}
use Rattle.std.proofs.lemmas.List.{map-append}
use Rattle.std.proofs.lemmas.Option.{slice_get-map}
use Rattle.seize_words.specs.OneMemory.Mem.{Mem}
use Rattle.seize_words.specs.OneMemory.Op.{Op}
use Rattle.seize.specs.World.{World}
use Rattle.seize_seats.specs.Seats.Errands.{TurnsUnlent}
use Rattle.seize_seats.specs.Seats.State.{State, view_of, Starts, Comes, Allows, Goes}
use Rattle.seize_seats.specs.Seats.Lendings.{VisibleTo, IsValueOf}
use Rattle.seize_views.specs.Views.Chains.{all_roots}
use Rattle.seize_views.specs.Views.Rows.{Leads, TurnsTo, Permits, Holds}
use Rattle.seize_views.specs.Views.Notes.{noted, newcomer, as_known, deed, NotedHolds, NotedKeeps, noted_observed, StartsAreNoted, ComingsAreNoted, StepsAreNoted, TurnsAreNoted, SettlingsAreNoted, MeetingsAreNoted, LooksAreNoted}
use Rattle.seize_views.specs.Views.Promises.{IsToSettle, IsTaker}
use Rattle.seize_views.specs.Views.Watched.{one, open_at, is_watching, Leans, IsOwn, Stays, known_by, IsBase, Upholds, AreWatched}
use Rattle.seize_views.proofs.Views.Beginnings as beginnings
use Rattle.seize_views.proofs.Views.Beginnings.{seats_join}
use Rattle.seize_views.specs.Views.Stays.{Still, observed_still}
use Rattle.seize_views.specs.Views.Resting.{own_leans}
use Rattle.seize_views.proofs.Views.Leaned.{own_under}
use Rattle.seize_views.proofs.Views.Watched.{open_inside, own_watches, own_not, steps_watched, joins_watched, Counted, meets_watched}
use Rattle.seize.specs.Law.{holds}
use Rattle.seize.specs.declared.rows.settle.Settle.{Settle}
use Rattle.seize_views.specs.Views.Begun.{IsBegun, Hands}
use Rattle.seize_views.specs.Views.Told.{told}
use Rattle.seize_views.specs.declared.view.Noted.{Noted}
use Rattle.seize_views.specs.declared.view.Deed.{Deed}
use Rattle.seize_views.specs.declared.view.Began.{Began}
use Rattle.seize_views.specs.declared.view.SlotView.{SlotView}
use Rattle.seize_views.specs.declared.view.SlotView.TheVariants.{Rests, Registers, Outside, Owes, Enters, Inside, Settles, Leaves, Left, Frees, Brings, Bears, Watches, Under, Joins, Defers, Busy}
use Rattle.seize_views.specs.declared.view.Has.TheVariants.{Nothing, Made, Seen, Both, Cut, Walks}
use Rattle.seize_views.specs.declared.view.Becomes.{Becomes}
use Rattle.seize_views.specs.declared.view.Becomes.TheVariants.{Idle, Active}
use Rattle.seize_views.specs.declared.view.Fixed.{Fixed}

module _ {X Y : Type 0} (f : X → Y) where
  set_known : (l : List X) (i : ℕ) (x : X) → map f (slice_set l i x) ≡ slice_set (map f l) i (f x)
  set_known [] i x = refl
  set_known (a ∷ l) zero x = refl
  set_known (a ∷ l) (suc i) x = ap (λ (k : List Y). f a ∷ k) (set_known l i x)

  get_known : (l : List X) (i : ℕ) (x : X) → slice_get l i ≡ Some x → slice_get (map f l) i ≡ Some (f x)
  get_known l i x e = slice_get-map f l i ∙ ap (option_map f) e

module _ {T : Type 0} (defers : T → Option ℕ) (fixed : Fixed) where
  abbrev H : State T (SlotView T) (World T) → Type 0
  H = Holds defers fixed

  abbrev N : State T (Noted T) (World T) → Type 0
  N = NotedHolds defers fixed

  pub seen_at : (s : State T (Noted T) (World T)) (j : ℕ) (v : Noted T) → view_of s j ≡ Some v → view_of (as_known s) j ≡ Some v.knows
  seen_at s j v e = get_known known_by s.views j v e

  -- with these views
  abbrev with_views : Mem T → World T → List (SlotView T) → State T (SlotView T) (World T)
  with_views m w views = record { memory = m; views = views; world = w }

  -- the rule of what is known, and of who watches, by these views
  abbrev both : Mem T → World T → List (Noted T) → List (SlotView T) → Type 0
  both m w seats views = H (with_views m w views) × AreWatched seats views w.log

  -- the seat goes on as it may by what it knows, and notes this
  pub goes : (s : State T (Noted T) (World T)) (h : N s) (m : Mem T) (id : ℕ) (v : Noted T) (at : view_of s id ≡ Some v) (so : SlotView T → Type 0) (did : Deed T)
      (began : Began) → ((u : SlotView T) → so u → (t : ℕ) → is_watching t u ≡ is_watching t v.knows) → ((u : SlotView T) → so u → Stays v.guards v.knows u)
      → (g : Leads defers fixed (as_known s) m id so) → ((t b : ℕ) → g.0 ≡ Watches t b → b ≢ 0 → holds t b g.1.log ≡ true)
      → ((n t b : ℕ) → g.0 ≡ Under n t b → (n ≢ id) × IsBase s.views n t × (b ≢ 0 → holds t b g.1.log ≡ true)) → Upholds s.views id v.knows g.0
      → Goes N NotedKeeps s m id (λ u. so u.knows × (u.did ≡ did) × (u.began ≡ began) × (u.guards ≡ v.guards))
  goes s h m id v at so did began same stays g mine under upholds =
      let u : Noted T = noted g.0 did began v.guards in (
        u,
        g.1,
        subst (both m g.1 (slice_set s.views id u)) (sym (set_known known_by s.views id u))
            (g.2, steps_watched defers fixed s.views (as_known s) h.0 h.1 id v u g.1 at (seen_at s id v at) g.4 g.2.apart (seen_at s) refl (same g.0 g.5) mine (stays g.0 g.5) under upholds),
        (λ j k b a o ne ne2 e f keeps. (keeps.0, keeps.1, g.4 keeps.0 b (open_inside s.world a.knows keeps.0 keeps.1 (h.0.seats j a.knows (seen_at s j a e)).slot) keeps.2)),
        (g.5, refl, refl, refl),
      )

  -- who watches none does not so afterwards
  own_same : (v u : SlotView T) → IsOwn v → IsOwn u → (t : ℕ) → is_watching t u ≡ is_watching t v
  own_same v u a b t = own_watches u t b ∙ sym (own_watches v t a)

  pub allows : (id : ℕ) (v : Noted T) (op : Op T) → IsOwn v.knows → Permits defers fixed id v.knows op (told defers v.knows op)
      → Allows N NotedKeeps id v op (noted_observed defers v op)
  allows id v op own may s h at =
      let k = may (as_known s) h.0 (seen_at s id v at) in (
        k.0,
        λ out m took.
            let g = k.1 out m took in
            let still : (u : SlotView T) → told defers v.knows op out u → Still v.knows u = λ u is. observed_still defers v.knows op out u own is in
            goes s h m id v at (told defers v.knows op out) (deed v.knows v.did op out) v.began (λ u is. own_same v.knows u own (still u is).own)
            (λ u is. as_stays v.guards v.knows u (still u is).section) g (λ t b e some. absurd (own_not g.0 t b (still g.0 g.5).own e))
            (λ n t b e. absurd (own_under g.0 n t b (still g.0 g.5).own e)) (as_upheld s.views v.knows g.0 (still g.0 g.5).section),
      )
    where
      as_stays : (n : ℕ) (v u : SlotView T) → (open_at u ≡ open_at v) ⊎ (open_at v ≡ None) → Stays n v u
      as_stays n v u (inl e) = inl e
      as_stays n v u (inr e) = inr (inl e)

      as_upheld : (seats : List (Noted T)) (v u : SlotView T) → (open_at u ≡ open_at v) ⊎ (open_at v ≡ None) → Upholds seats id v u
      as_upheld seats v u (inl e) = inl e
      as_upheld seats v u (inr e) = inr (inl e)

  pub turns : (id : ℕ) (v : Noted T) (so : SlotView T → Type 0) (did : Deed T) (began : Began) → IsOwn v.knows → ((u : SlotView T) → so u → IsOwn u)
      → ((u : SlotView T) → so u → Stays v.guards v.knows u) → TurnsTo defers fixed id v.knows so
      → TurnsUnlent N NotedKeeps Leans id v (λ u. so u.knows × (u.did ≡ did) × (u.began ≡ began) × (u.guards ≡ v.guards))
  turns id v so did began own owns stays may s h at unlent =
      let g = may (as_known s) h.0 (seen_at s id v at) in
      goes s h s.memory id v at so did began (λ u is. own_same v.knows u own (owns u is)) stays g (λ t b e some. absurd (own_not g.0 t b (owns g.0 g.5) e))
      (λ n t b e. absurd (own_under g.0 n t b (owns g.0 g.5) e)) (by g.0 (stays g.0 g.5))
    where
      by : (u : SlotView T) → Stays v.guards v.knows u → Upholds s.views id v.knows u
      by u (inl e) = inl e
      by u (inr (inl none)) = inr (inl none)
      by u (inr (inr ends)) = inr (inr unlent)

  comes : Comes N NotedKeeps newcomer
  comes s h = (
    s.world,
    subst (both s.memory s.world (s.views ++ newcomer ∷ [])) (sym (map-append known_by s.views (newcomer ∷ [])))
        (seats_join T defers fixed (as_known s) h.0, joins_watched defers fixed s.views (as_known s) h.0 h.1 newcomer s.world.log tt refl refl (λ t b held. held)),
    λ b u o keeps. keeps,
  )

  -- two seats meet, and both come to know this
  pub meets : (s : State T (Noted T) (World T)) (h : N s) (i j : ℕ) (v u p q : Noted T) (at_i : view_of s i ≡ Some v) (at_j : view_of s j ≡ Some u) (ne : i ≢ j)
      → H (with_views s.memory s.world (slice_set (slice_set (map known_by s.views) i p.knows) j q.knows))
      → Counted defers fixed s.views (as_known s) h.0 h.1 i j v u p q ne at_i at_j (seen_at s i v at_i) (seen_at s j u at_j) (seen_at s)
      → N record { memory = s.memory; views = slice_set (slice_set s.views i p) j q; world = s.world }
  meets s h i j v u p q at_i at_j ne known c =
      let same : map known_by (slice_set (slice_set s.views i p) j q) ≡ slice_set (slice_set (map known_by s.views) i p.knows) j q.knows =
      set_known known_by (slice_set s.views i p) j q ∙ ap (λ (l : List (SlotView T)). slice_set l j q.knows) (set_known known_by s.views i p) in
      subst (both s.memory s.world (slice_set (slice_set s.views i p) j q)) (sym same)
      (known, meets_watched defers fixed s.views (as_known s) h.0 h.1 i j v u p q ne at_i at_j (seen_at s i v at_i) (seen_at s j u at_j) (seen_at s) c)

  pub shown : (id : ℕ) (v : Noted T) (b : ℕ) → VisibleTo H id v.knows b → VisibleTo N id v b
  shown id v b is t h at = is (as_known t) h.0 (seen_at t id v at)

  pub value_of : (id : ℕ) (v : Noted T) (b : ℕ) (x : T) → IsValueOf N id v b x → IsValueOf H id v.knows b x
  value_of id v b x is = (as_known is.0, is.1.0, seen_at is.0 id v is.2, is.3)

-- what is handed on changes no section, and no watch
pub handed : {T : Type 0} (fixed : Fixed) (b : ℕ) (u p q : SlotView T) → IsTaker u → Hands fixed (Bears b) u p q
    → (open_at q ≡ open_at u) × IsOwn u × IsOwn q × (p ≡ Rests)
handed fixed b (Outside t) p q takes is = (ap open_at is.1, tt, subst IsOwn (sym is.1) tt, is.0)
handed fixed b (Inside t Nothing) p q takes is = (ap open_at is.1, tt, subst IsOwn (sym is.1) tt, is.0)
handed fixed b (Inside t (Seen a)) p q takes is = (ap open_at is.1, tt, subst IsOwn (sym is.1) tt, is.0)
handed fixed b (Inside t (Made c x)) p q takes is = absurd takes
handed fixed b (Inside t (Both c x a)) p q takes is = absurd takes
handed fixed b (Inside t (Cut c)) p q takes is = absurd takes
handed fixed b (Inside t (Walks c next)) p q takes is = absurd takes
handed fixed b Rests p q takes is = absurd takes
handed fixed b (Registers c) p q takes is = absurd takes
handed fixed b (Owes t c) p q takes is = absurd takes
handed fixed b (Enters t) p q takes is = absurd takes
handed fixed b (Settles c why seen left) p q takes is = absurd takes
handed fixed b (Leaves t size way) p q takes is = absurd takes
handed fixed b (Left t size way) p q takes is = absurd takes
handed fixed b (Frees t) p q takes is = absurd takes
handed fixed b (Brings c x) p q takes is = absurd takes
handed fixed b (Bears c) p q takes is = absurd takes
handed fixed b (Watches t c) p q takes is = absurd takes
handed fixed b (Under n t c) p q takes is = absurd takes
handed fixed b (Joins block) p q takes is = absurd takes
handed fixed b (Defers t c) p q takes is = absurd takes
handed fixed b (Busy t) p q takes is = absurd takes

-- a settling begins where no section ends
pub settles_open : {T : Type 0} (fixed : Fixed) (v u : SlotView T) (way : Becomes) (c : Settle) → IsToSettle fixed v way c → IsBegun way c u
    → IsOwn v × IsOwn u × (open_at u ≡ open_at v)
settles_open fixed (Inside t (Cut b)) u Active c to is = (tt, subst IsOwn (sym is.1) tt, ap open_at is.1 ∙ ap (λ (k : Settle). Some k.slot) to)
settles_open fixed (Inside t Nothing) u Active c to is = (tt, subst IsOwn (sym is.1) tt, ap open_at is.1 ∙ ap (λ (k : Settle). Some k.slot) to)
settles_open fixed (Inside t (Seen b)) u Active c to is = (tt, subst IsOwn (sym is.1) tt, ap open_at is.1 ∙ ap (λ (k : Settle). Some k.slot) to)
settles_open fixed (Owes t b) u Idle c to is = (tt, subst IsOwn (sym is.1) tt, ap open_at is.1)
settles_open fixed (Outside t) u Idle c to is = (tt, subst IsOwn (sym is.1) tt, ap open_at is.1)
settles_open fixed (Inside t (Made b x)) u way c to is = absurd to
settles_open fixed (Inside t (Both b x a)) u way c to is = absurd to
settles_open fixed (Inside t (Walks b next)) u way c to is = absurd to
settles_open fixed (Inside t (Cut b)) u Idle c to is = absurd to
settles_open fixed (Inside t Nothing) u Idle c to is = absurd to
settles_open fixed (Inside t (Seen b)) u Idle c to is = absurd to
settles_open fixed (Owes t b) u Active c to is = absurd to
settles_open fixed (Outside t) u Active c to is = absurd to
settles_open fixed Rests u way c to is = absurd to
settles_open fixed (Registers r) u way c to is = absurd to
settles_open fixed (Enters t) u way c to is = absurd to
settles_open fixed (Settles d why seen left) u way c to is = absurd to
settles_open fixed (Leaves t size w) u way c to is = absurd to
settles_open fixed (Left t size w) u way c to is = absurd to
settles_open fixed (Frees t) u way c to is = absurd to
settles_open fixed (Brings b x) u way c to is = absurd to
settles_open fixed (Bears b) u way c to is = absurd to
settles_open fixed (Watches t b) u way c to is = absurd to
settles_open fixed (Under n t b) u way c to is = absurd to
settles_open fixed (Joins block) u way c to is = absurd to
settles_open fixed (Defers t d) u way c to is = absurd to
settles_open fixed (Busy t) u way c to is = absurd to

module _ (T : Type 0) (defers : T → Option ℕ) where
  pub starts_are_noted : StartsAreNoted T defers
  starts_are_noted fixed is = (
    is.0,
    (
      is.1,
      record {
        held = λ j t b e. absurd (cc e);
        counted = λ k v e. absurd (cc e);
        opened = λ t some. absurd (some refl);
        leaned = record { based = λ j n t b v e. absurd (cc e); seen = λ j n t b v e. absurd (cc e) };
      },
    ),
  )

  pub rules_start : (fixed : Fixed) → Starts (NotedHolds defers fixed) (all_roots fixed)
  rules_start fixed = starts_are_noted fixed (beginnings.rules_start T defers fixed)

  pub comings_are_noted : ComingsAreNoted T defers
  comings_are_noted fixed = comes defers fixed

  pub steps_are_noted : StepsAreNoted T defers
  steps_are_noted fixed id v op own may = allows defers fixed id v op own may

  pub turns_are_noted : TurnsAreNoted T defers
  turns_are_noted fixed id v u did began own own2 stays may =
      turns defers fixed id v (λ x. x ≡ u) did began own (λ x is. subst IsOwn (sym is) own2) (λ x is. subst (Stays v.guards v.knows) (sym is) stays) may

  pub settlings_are_noted : SettlingsAreNoted T defers
  settlings_are_noted fixed id v way c did began to may s h at unlent =
      let g = may (as_known s) h.0 (seen_at defers fixed s id v at) in
      turns defers fixed id v (IsBegun way c) did began (settles_open fixed v.knows g.0 way c to g.5).0 (λ x is. (settles_open fixed v.knows x way c to is).1)
      (λ x is. inl (settles_open fixed v.knows x way c to is).2) may s h at unlent

  pub meetings_are_noted : MeetingsAreNoted T defers
  meetings_are_noted fixed i j b v u bears takes may s h at_i at_j ne =
      let k = may (as_known s) h.0 (seen_at defers fixed s i v at_i) (seen_at defers fixed s j u at_j) ne in
      let p : Noted T = noted k.0 v.did v.began v.guards in let q : Noted T = noted k.1 u.did u.began u.guards in
      let to = handed fixed b u.knows k.0 k.1 takes (subst (λ (x : SlotView T). Hands fixed x u.knows k.0 k.1) bears k.3) in
      let own : IsOwn v.knows = subst IsOwn (sym bears) tt in let own2 : IsOwn k.0 = subst IsOwn (sym to.3) tt in
      let watch : (x : ℕ) → is_watching x k.0 ≡ is_watching x v.knows = own_same defers fixed v.knows k.0 own own2 in (
        p,
        q,
        meets defers fixed s h i j v u p q at_i at_j ne k.2 (record {
          one_guards = refl;
          one_open = ap open_at to.3 ∙ sym (ap open_at bears);
          other_open = to.0;
          other_watch = own_same defers fixed u.knows k.1 to.1 to.2;
          beside = λ x other. watch x;
          balance = λ t is. ap (λ (y : Bool). u.guards + one y) (sym (watch t));
          none = λ is. refl;
          one_seen = λ x c e some. absurd (own_not k.0 x c own2 e);
          other_seen = λ x c e some. absurd (own_not k.1 x c to.2 e);
          one_upright = λ m leans. own_leans k.0 m own2 leans;
          other_upright = λ m leans. own_leans k.1 m to.2 leans;
        }),
        (k.3, (refl, refl, refl), (refl, refl, refl)),
      )

  pub looks_are_noted : LooksAreNoted T defers
  looks_are_noted fixed id v b = (shown defers fixed id v b, value_of defers fixed id v b)
