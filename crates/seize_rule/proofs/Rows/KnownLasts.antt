-- What a row knows lasts while the others step.
use Rattle.std.proofs.Common.{◌≡◌, ℕ, ◌+◌, ◌≤◌, Bool, true, false, [], refl, arith}
use Rattle.seize_moves.specs.Given.SeizeWordsDeclared.at.At.{At}
use Rattle.seize_moves.specs.Given.SeizeDeclared.rows.leave.Leaving.{Leaving}
use Rattle.seize_moves.specs.Given.SeizeDeclared.rows.leave.Leaving.TheVariants as leaving
use Rattle.seize_moves.specs.Given.SeizeDeclared.rows.defer.Deferring.{Deferring}
use Rattle.seize_moves.specs.Given.SeizeDeclared.rows.defer.Deferring.TheVariants as deferring
use Rattle.seize_moves.specs.Given.SeizeDeclared.rows.register.Registering.{Registering}
use Rattle.seize_moves.specs.Given.SeizeDeclared.rows.register.Registering.TheVariants as registering
use Rattle.seize_moves.specs.Given.SeizeWorld.{Row, Rests, Registers, Enters, Settles, Leaves, Defers, Frees}
use Rattle.seize_moves.proofs.Moves.State.Ghost.{Head, Idle, Active, Debt, Life, IsDeferring, State, emptied, of_row}
use Rattle.seize_moves.proofs.Moves.State.Rule.{Inv, Keeps, IsGuarded}
use Rattle.seize_moves.proofs.Memory.Words.View.{View}
use Rattle.seize_moves.proofs.Memory.Words.Shows.{Extra, Shows, KeepsWords, lives, has_next}
use Rattle.seize_rule.proofs.Points.Known.{TakenBelow, bare}
use Rattle.seize_rule.proofs.Points.KnownLasts.{empty_last, outside_last, settle_last}
use Rattle.seize_rule.proofs.Rows.Known.{registering_on, leaving_on, works_on, Idles, OnSlot, Looks, Seen, FitsRegister, OverIs, FitsLeave, OnWay, FitsDefer, FitsRow, ListsLast, head_of}

-- a block that an open section holds lives
pub guarded_live : (l : Life) (debt : ℕ → ℕ → Debt) (t : ℕ) → IsGuarded l debt t → lives l ≡ true
guarded_live l debt t g = grind arith

pub way_live : (n i b s t : ℕ) (f : View) (m : State) (x : Extra) → Inv n m → Shows n f m x → m.life b ≡ IsDeferring i s t → f.live t ≡ true
way_live n i b s t f m x inv v h =
    let w = inv.logged.on_way b i s t h in
    cc (v.lists.lived t, guarded_live (m.life t) m.debt s (inv.logged.guarded s t w.2))

module _ (n i s j k k2 : ℕ) (f g : View) (m m2 : State) (x y : Extra) (keeps : Keeps n i s m m2) (w : KeepsWords i f m x g y) (inv : Inv n m) (v : Shows n f m x)
    (inv2 : Inv n m2) (v2 : Shows n g m2 y) (last : ListsLast f g) (more : k ≤ k2) (ne : j ≡ i → ⊥) where
  idles_last : Idles j m x → Idles j m2 y
  idles_last r = record { empty = empty_last n i s j f g m m2 x y keeps w inv v ne r.empty; outside = outside_last n i s j f g m m2 x y keeps w inv v ne r.outside }

  below_last : (b : ℕ) → TakenBelow m.head b → TakenBelow m2.head b
  below_last b h t l = keeps.taken_slots t (h t l)

  on_last : (t : ℕ) (h : Head) → emptied (m2.head t) ≡ emptied (m.head t) → OnSlot n j m x t h → OnSlot n j m2 y t h
  on_last t h e r = record { idles = idles_last r.idles; slot_lt = r.slot_lt; head = cc (e, r.head) }

  looks_last : (t : ℕ) → Looks n j m x k t → Looks n j m2 y k2 t
  looks_last t r = record { idles = idles_last r.idles; slot_lt = r.slot_lt; here = omega (arith, more, r.here); below = below_last t r.below }

  seen_last : (t seen : ℕ) → Seen n j m x k t seen → Seen n j m2 y k2 t seen
  seen_last t seen r = record { looks = looks_last t r.looks; free = r.free; taken = λ e. keeps.taken_slots t (r.taken e) }

  register_last : (t : ℕ) (p : Registering) → ((u : ℕ) → registering_on t p ≡ u + 1 → emptied (m2.head u) ≡ emptied (m.head u))
      → FitsRegister n j m x k t p → FitsRegister n j m2 y k2 t p
  register_last t registering.Begin h r = record { idles = idles_last r.idles; first = r.first; slot_lt = r.slot_lt }
  register_last t registering.Look h r = looks_last t r
  register_last t (registering.Widen bucket seen) h r = record { sees = seen_last t seen r.sees; needed = r.needed }
  register_last t (registering.Take seen) h r = record { sees = seen_last t seen r.sees; behind = λ l. let p = r.behind l in omega (arith, more, p) }
  register_last t registering.Enter h r = on_last t Idle (h t refl) r
  register_last t registering.Registered h r = r
  register_last t (registering.Refused fault) h r = r

  over_last : (t becomes : ℕ) (frees : Bool) → ((u : ℕ) → leaving_on t frees leaving.Over ≡ u + 1 → emptied (m2.head u) ≡ emptied (m.head u))
      → OverIs frees n j m x t becomes → OverIs frees n j m2 y t becomes
  over_last t becomes true h r = (idles_last r.0, r.1)
  over_last t becomes false h r = (r.0, r.1, on_last t (head_of r.0) (h t refl) r.2)

  leave_last : (t becomes : ℕ) (frees : Bool) (p : Leaving) → ((u : ℕ) → leaving_on t frees p ≡ u + 1 → emptied (m2.head u) ≡ emptied (m.head u))
      → FitsLeave n j f m x t becomes frees p → FitsLeave n j g m2 y t becomes frees p
  leave_last t becomes frees leaving.Swaps h r = record { on = on_last t (Active []) (h t refl) r.on; again = r.again; ends = r.ends }
  leave_last t becomes frees (leaving.Settles settle) h r = record {
    slot_is = r.slot_is;
    slot_lt = r.slot_lt;
    again = r.again;
    ends = r.ends;
    head = let e = h t refl in cc (e, r.head);
    settles = settle_last n i s j f g m m2 x y keeps w inv v ne (bare settle) settle.stands r.settles;
  }
  leave_last t becomes frees leaving.Frees h r = record { on = on_last t Idle (h t refl) r.on; ends = r.ends; really = r.really }
  leave_last t becomes frees leaving.Over h r = over_last t becomes frees h r

  abbrev way_last : (t block : ℕ) (at : At) → OnWay n j f m x t block at → OnWay n j g m2 y t block at
  way_last t block at r = let l = life r.b r.t r.life in record {
    empty = empty_last n i s j f g m m2 x y keeps w inv v ne r.empty;
    slot_lt = r.slot_lt;
    b = r.b;
    t = r.t;
    d = r.d;
    block_is = r.block_is;
    some = r.some;
    life = l;
    at_is = r.at_is;
    list = last r.t r.d r.list (way_live n j r.b t r.t g m2 y inv2 v2 l);
  }
    where
      of : (b u : ℕ) (l : Life) → l ≡ IsDeferring j t u → of_row j l ≡ true
      of b u l e = grind arith

      life : (b u : ℕ) → m.life b ≡ IsDeferring j t u → m2.life b ≡ IsDeferring j t u
      life b u h = cc ((keeps.lives j b ne (of b u (m.life b) h)).0, h)

  defer_last : (t block : ℕ) (at : At) (p : Deferring) → FitsDefer n j f m x t block at p → FitsDefer n j g m2 y t block at p
  defer_last t block at deferring.Reads r = way_last t block at r
  defer_last t block at (deferring.Links head) r = way_last t block at r
  defer_last t block at (deferring.Pushes head) r = record { on = way_last t block at r.on; next = cc (next r.on.b r.on.t r.on.life, r.next) }
    where
      mine : (u : ℕ) (l : Life) → l ≡ IsDeferring j t u → has_next j m.holder m.stage l ≡ true
      mine u l e = grind arith

      next : (b u : ℕ) → m.life b ≡ IsDeferring j t u → g.nexts b ≡ f.nexts b
      next b u h = w.nexts j b ne (mine u (m.life b) h)
  defer_last t block at deferring.Over r = let p = keeps.rows j ne in record {
    empty = empty_last n i s j f g m m2 x y keeps w inv v ne r.empty;
    slot_lt = r.slot_lt;
    section = cc (p.section, r.section);
    none = cc (p.defers, r.none);
  }

  -- whatever the row has under way, where its slot's head is the same but for its list
  pub row_last : (row : Row) → ((u : ℕ) → works_on row ≡ u + 1 → emptied (m2.head u) ≡ emptied (m.head u)) → FitsRow n j f m x k row → FitsRow n j g m2 y k2 row
  row_last Rests h r = idles_last r
  row_last (Registers c) h r = register_last c.slot c.stands h r
  row_last (Enters c) h r = on_last c.slot Idle (h c.slot refl) r
  row_last (Settles c) h r = settle_last n i s j f g m m2 x y keeps w inv v ne (bare c) c.stands r
  row_last (Leaves c) h r = leave_last c.slot c.becomes c.frees c.stands h r
  row_last (Defers t c) h r = defer_last t c.block c.table_word c.stands r
  row_last (Frees c) h r = on_last c.slot Idle (h c.slot refl) r
