-- The rule with what each seat has done last: it is noted as it is done, and whatever a seat may do by what it knows it may do.
use Rattle.std.specs.Prelude.{◌≡◌, ◌≢◌, ◌+◌, ◌<◌, ◌^◌, ℕ, true, Option, Some, None, Ok, Err, map, option_map}
use Rattle.seize_words.specs.OneMemory.Word.{block_in}
use Rattle.seize_words.specs.OneMemory.Op.{Op, Out, Load, Swap, Or, Exchange, Found, Exchanged}
use Rattle.seize_words.specs.declared.at.At.TheVariants.{Root}
use Rattle.seize.specs.declared.rows.settle.Settle.{Settle}
use Rattle.seize.specs.Law.{holds}
use Rattle.seize.specs.World.{World}
use Rattle.seize_seats.specs.Seats.Errands.{TurnsUnlent}
use Rattle.seize_seats.specs.Seats.State.{State, Starts, Comes, Allows, Turns, Learns, Meets, KeptByTwo, AreThere}
use Rattle.seize_seats.specs.Seats.Lendings.{VisibleTo, IsValueOf}
use Rattle.seize_views.specs.Views.Chains.{all_roots}
use Rattle.seize_views.specs.Views.Rows.{TurnsTo, Permits, Holds}
use Rattle.seize_views.specs.Views.Begun.{IsBegun, Hands}
use Rattle.seize_views.specs.Views.Told.{told}
use Rattle.seize_views.specs.Views.Promises.{IsToSettle, IsTaker}
use Rattle.seize_views.specs.Views.Watched.{open_at, Leans, IsOwn, Stays, known_by, AreGuarded}
use Rattle.seize_views.specs.declared.view.Noted.{Noted}
use Rattle.seize_views.specs.declared.view.Deed.{Deed}
use Rattle.seize_views.specs.declared.view.Deed.TheVariants.{NoneYet, Looked, Wrote, Marked}
use Rattle.seize_views.specs.declared.view.Began.{Began}
use Rattle.seize_views.specs.declared.view.Began.TheVariants.{NotYet}
use Rattle.seize_views.specs.declared.view.SlotView.{SlotView}
use Rattle.seize_views.specs.declared.view.SlotView.TheVariants.{Rests, Outside, Inside, Brings, Bears, Watches, Under, Joins, Defers}
use Rattle.seize_views.specs.declared.view.Deferral.TheVariants.{Takes}
use Rattle.seize_views.specs.declared.view.Has.{Has}
use Rattle.seize_views.specs.declared.view.Has.TheVariants.{Made, Both}
use Rattle.seize_views.specs.declared.view.Becomes.{Becomes}
use Rattle.seize_views.specs.declared.view.Fixed.{Fixed}

-- nothing has begun
abbrev pub still : Began → Began
still began = began

module _ {T : Type 0} where
  abbrev pub noted : SlotView T → Deed T → Began → ℕ → Noted T
  noted v did began guards = record { knows = v; did = did; began = began; guards = guards }

  -- who has just come knows nothing, and has done nothing
  abbrev pub newcomer : Noted T
  newcomer = noted Rests NoneYet NotYet 0

  -- the state by what the seats know alone
  abbrev pub as_known : State T (Noted T) (World T) → State T (SlotView T) (World T)
  as_known s = record { memory = s.memory; views = map known_by s.views; world = s.world }

  -- the value of the block that was made, if one was
  abbrev pub made_in : Has T → Option T
  made_in (Made b x) = Some x
  made_in (Both b x a) = Some x
  made_in _ = None

  -- what was done at a root, by who has made a block of this value, or none
  abbrev pub deed_at : Option T → Deed T → Op T → Out T → Deed T
  deed_at made did (Load (Root r)) (Found word) = Looked r word
  deed_at made did (Swap (Root r) word) (Found old) = Wrote r word made old
  deed_at made did (Or (Root r) bits) (Found word) = Marked r bits word
  deed_at made did (Exchange (Root r) old new) (Exchanged (Ok was)) = Wrote r new made old
  deed_at made did (Exchange (Root r) old new) (Exchanged (Err now)) = Looked r now
  deed_at made did op out = did

  abbrev pub deed : SlotView T → Deed T → Op T → Out T → Deed T
  deed (Outside t) did op out = deed_at None did op out
  deed (Inside t has) did op out = deed_at (made_in has) did op out
  deed (Brings b x) did op out = deed_at (Some x) did op out
  deed (Joins (Some made)) did op out = deed_at (Some made.1) did op out
  deed (Watches t b) did op out = deed_at None did op out
  deed (Under n t b) did op out = deed_at None did op out
  deed (Defers t (Takes a y made)) did op out = deed_at (option_map (λ (m : ℕ × T). m.1) made) did op out
  deed v did op out = did

  -- it has looked at a root, or had a word there compared: where, and which block that named, 0 for none
  abbrev pub looked_at : Deed T → Option (ℕ × ℕ)
  looked_at (Looked r word) = Some (r, block_in word)
  looked_at _ = None

  -- it has written at a root: where, a link to a block of which value, or to none, and in place of which block, 0 for none
  abbrev pub written_at : Deed T → Option (ℕ × Option T × ℕ)
  written_at (Wrote r word made old) = Some (r, made, block_in old)
  written_at _ = None

  -- two views have the same notes
  abbrev pub SameNotes : Noted T → Noted T → Type 0
  SameNotes v u = (u.did ≡ v.did) × (u.began ≡ v.began) × (u.guards ≡ v.guards)

  -- a block is handed on, and nothing has begun
  abbrev pub NotedHands : Fixed → Noted T → Noted T → Noted T → Noted T → Type 0
  NotedHands fixed v u p q = Hands fixed v.knows u.knows p.knows q.knows × SameNotes v p × SameNotes u q

  -- a seat begins to watch the section that another one has open, which counts one more
  abbrev pub Begins : Noted T → Noted T → Noted T → Noted T → Type 0
  Begins v u p q =
      (t : ℕ) → open_at u.knows ≡ Some t
      → (p.knows ≡ Watches t 0) × (p.guards ≡ v.guards) × (q.knows ≡ u.knows) × (q.did ≡ u.did) × (q.began ≡ u.began) × (q.guards ≡ u.guards + 1)

  -- or ends, and that one counts one less
  abbrev pub Ends : Noted T → Noted T → Noted T → Noted T → Type 0
  Ends v u p q = (p.knows ≡ Rests) × (p.guards ≡ v.guards) × (q.knows ≡ u.knows) × (q.did ≡ u.did) × (q.began ≡ u.began) × (q.guards + 1 ≡ u.guards)

  -- the section that a seat has open holds the block
  abbrev pub NotedKeeps : Noted T → Noted T → World T → ℕ → Type 0
  NotedKeeps u o w b = (t : ℕ) × (open_at u.knows ≡ Some t) × (holds t b w.log ≡ true)

  -- a seat leans on the one of this number, which has a section open
  abbrev pub BeginsUnder : Noted T → ℕ → Noted T → Noted T → Type 0
  BeginsUnder v n u w = (t : ℕ) → open_at u.knows ≡ Some t → (w.knows ≡ Under n t 0) × SameNotes v w

  -- or knows nothing any more
  abbrev pub ReturnsToRest : Noted T → Noted T → Type 0
  ReturnsToRest v w = (w.knows ≡ Rests) × SameNotes v w

module _ {T : Type 0} (defers : T → Option ℕ) where
  abbrev pub NotedHolds : Fixed → State T (Noted T) (World T) → Type 0
  NotedHolds fixed s = Holds defers fixed (as_known s) × AreGuarded s

  abbrev pub noted_observed : Noted T → Op T → Out T → Noted T → Type 0
  noted_observed v op out w = told defers v.knows op out w.knows × (w.did ≡ deed v.knows v.did op out) × (w.began ≡ v.began) × (w.guards ≡ v.guards)

module _ (T : Type 0) (defers : T → Option ℕ) where
  -- The promise: what starts, comes, and may be done by what is known does so with notes.
  abbrev pub StartsAreNoted : Type 0
  StartsAreNoted = (fixed : Fixed) → Starts (Holds defers fixed) (all_roots fixed) → Starts (NotedHolds defers fixed) (all_roots fixed)

  abbrev pub ComingsAreNoted : Type 0
  ComingsAreNoted = (fixed : Fixed) → Comes (NotedHolds defers fixed) NotedKeeps newcomer

  abbrev pub StepsAreNoted : Type 0
  StepsAreNoted =
      (fixed : Fixed) (id : ℕ) (v : Noted T) (op : Op T) → IsOwn v.knows → Permits defers fixed id v.knows op (told defers v.knows op)
      → Allows (NotedHolds defers fixed) NotedKeeps id v op (noted_observed defers v op)

  -- a turn that ends no section which is watched may note anything, where nobody leans on the seat
  abbrev pub TurnsAreNoted : Type 0
  TurnsAreNoted =
      (fixed : Fixed) (id : ℕ) (v : Noted T) (u : SlotView T) (did : Deed T) (began : Began) → IsOwn v.knows → IsOwn u → Stays v.guards v.knows u
      → TurnsTo defers fixed id v.knows (λ x. x ≡ u)
      → TurnsUnlent (NotedHolds defers fixed) NotedKeeps Leans id v (λ x. (x.knows ≡ u) × (x.did ≡ did) × (x.began ≡ began) × (x.guards ≡ v.guards))

  abbrev pub SettlingsAreNoted : Type 0
  SettlingsAreNoted =
      (fixed : Fixed) (id : ℕ) (v : Noted T) (way : Becomes) (c : Settle) (did : Deed T) (began : Began) → IsToSettle fixed v.knows way c
      → TurnsTo defers fixed id v.knows (IsBegun way c)
      → TurnsUnlent (NotedHolds defers fixed) NotedKeeps Leans id v (λ x. IsBegun way c x.knows × (x.did ≡ did) × (x.began ≡ began) × (x.guards ≡ v.guards))

  -- and so may a meeting
  abbrev pub MeetingsAreNoted : Type 0
  MeetingsAreNoted =
      (fixed : Fixed) (i j b : ℕ) (v u : Noted T) → v.knows ≡ Bears b → IsTaker u.knows
      → Meets (Holds defers fixed) i v.knows j u.knows (Hands fixed v.knows u.knows)
      → Meets (NotedHolds defers fixed) i v j u (NotedHands fixed v u)

  -- and a block that is shown by what is known is shown, with a value that is its value by that
  abbrev pub LooksAreNoted : Type 0
  LooksAreNoted =
      (fixed : Fixed) (id : ℕ) (v : Noted T) (b : ℕ) → (VisibleTo (Holds defers fixed) id v.knows b → VisibleTo (NotedHolds defers fixed) id v b)
      × ((x : T) → IsValueOf (NotedHolds defers fixed) id v b x → IsValueOf (Holds defers fixed) id v.knows b x)

  -- A seat may begin to watch an open section, and end, by meeting the seat that has it open.
  abbrev pub WatchesBegin : Type 0
  WatchesBegin =
      (fixed : Fixed) (i j t : ℕ) (v u : Noted T) → v.knows ≡ Rests → open_at u.knows ≡ Some t → Meets (NotedHolds defers fixed) i v j u (Begins v u)

  abbrev pub WatchesEnd : Type 0
  WatchesEnd =
      (fixed : Fixed) (i j t b : ℕ) (v u : Noted T) → v.knows ≡ Watches t b → open_at u.knows ≡ Some t
      → Meets (NotedHolds defers fixed) i v j u (Ends v u)

  -- as long as it does, it may look at a root, and what it has seen there is there
  abbrev pub WatchersSee : Type 0
  WatchersSee =
      (fixed : Fixed) (id t b r : ℕ) (v : Noted T) → v.knows ≡ Watches t b → r < fixed.roots
      → Allows (NotedHolds defers fixed) NotedKeeps id v (Load (Root r)) (noted_observed defers v (Load (Root r)))

  abbrev pub WatchedAreShown : Type 0
  WatchedAreShown = (fixed : Fixed) (id t b : ℕ) (v : Noted T) → v.knows ≡ Watches t b → b ≢ 0 → VisibleTo (NotedHolds defers fixed) id v b

  -- A seat may come to lean on one that has a section open,
  abbrev pub LeaningsBegin : Type 0
  LeaningsBegin =
      (fixed : Fixed) (i j t : ℕ) (v u : Noted T) → v.knows ≡ Rests → open_at u.knows ≡ Some t
      → Learns (NotedHolds defers fixed) NotedKeeps i v j u (BeginsUnder v j u)

  -- look at a root then,
  abbrev pub LeaningsSee : Type 0
  LeaningsSee =
      (fixed : Fixed) (id n t b r : ℕ) (v : Noted T) → v.knows ≡ Under n t b → r < fixed.roots
      → Allows (NotedHolds defers fixed) NotedKeeps id v (Load (Root r)) (noted_observed defers v (Load (Root r)))

  -- or set bits of the tag of the word there, which it sees,
  abbrev pub LeaningsMark : Type 0
  LeaningsMark =
      (fixed : Fixed) (id n t b r bits : ℕ) (v : Noted T) → v.knows ≡ Under n t b → bits < 2 ^ 11 → r < fixed.roots
      → Allows (NotedHolds defers fixed) NotedKeeps id v (Or (Root r) bits) (noted_observed defers v (Or (Root r) bits))

  -- and rest again; what it has seen that one keeps
  abbrev pub LeaningsEnd : Type 0
  LeaningsEnd =
      (fixed : Fixed) (id n t b : ℕ) (v : Noted T) → v.knows ≡ Under n t b
      → Turns (NotedHolds defers fixed) NotedKeeps id v (ReturnsToRest v)

  abbrev pub LeaningsKeep : Type 0
  LeaningsKeep =
      (fixed : Fixed) (i n t b : ℕ) (v u : Noted T) → v.knows ≡ Under n t b → b ≢ 0 → KeptByTwo (NotedHolds defers fixed) NotedKeeps i v n u n u b

  abbrev pub KeptAreThere : Type 0
  KeptAreThere = (fixed : Fixed) → AreThere (NotedHolds defers fixed) NotedKeeps
