-- In the middle of a whole call, and at its end: what was reclaimed, and which waiting sets the state shows.
use Rattle.std.specs.Prelude.{Option}
use Rattle.std.proofs.Common.{◌≡◌, ℕ, ◌+◌, ◌<◌, ◌^◌, Bool, true, false, List, ◌++◌, refl, arith, subst, sym, ap, ◌∙◌}
use Rattle.std.proofs.lemmas.List.{append-nil}
use Rattle.seize.specs.Given.SeizeWordsDeclared.at.At.{At}
use Rattle.seize.specs.Given.SeizeWordsDeclared.at.At.TheVariants.{Word}
use Rattle.seize.specs.declared.states.TheConstants.{LAST_SLOT}
use Rattle.seize.specs.declared.rows.settle.Settle.{Settle}
use Rattle.seize.specs.declared.rows.settle.Settling.TheVariants as at
use Rattle.seize.specs.declared.rows.leave.Leave.{Leave}
use Rattle.seize.specs.declared.rows.leave.Leaving.{Leaving}
use Rattle.seize.specs.declared.rows.leave.Leaving.TheVariants as leaving
use Rattle.seize.specs.declared.rows.defer.Deferring.{Deferring}
use Rattle.seize.specs.declared.rows.defer.Deferring.TheVariants as deferring
use Rattle.seize.specs.Leave.{standing}
use Rattle.seize.specs.Sequence.{taken_in}
use Rattle.seize.specs.WaitingSets.{Sets, After, Enters as EntersSet, Defers as DefersSet, quietly, changed, left, counted}
use Rattle.seize.specs.World.{World, Row, Rests, Registers, Enters, Settles, Leaves, Defers, Frees}
use Rattle.seize_rule.proofs.Given.SeizeMovesState.Ghost.{Entry, Idle, Active, State}
use Rattle.seize_rule.proofs.Given.SeizeMovesState.Rule.{Inv}
use Rattle.seize_rule.proofs.Given.SeizeMovesState.Moves
use Rattle.seize_rule.proofs.Given.SeizeMemoryWords.Named.{link}
use Rattle.seize_rule.proofs.Given.SeizeMemoryWords.View.{view}
use Rattle.seize_rule.proofs.Rows.Known.{word_of, FitsLeave}
use Rattle.seize_rule.proofs.Given.SeizeMovesSets.Shown.{Models}
use Rattle.seize_rule.proofs.Given.SeizeMovesSets.Moved.{enters_models, defers_models}
use Rattle.seize_rule.proofs.Rows.Sizes.{Sized, LeaveSized}
use Rattle.seize_rule.proofs.World.Rested.{Lone}
use Rattle.seize_rule.proofs.Points.Told.{Part, Plain, part, part_at, Told}
use Rattle.seize_rule.proofs.Given.SeizeMovesSets.Unmoved.{Unmoved, unmoved_models}
use Rattle.seize_rule.proofs.Rows.Told.{RowTold, SettleGoes, SettleEnds, LeaveSwaps, LeaveGoes, LeaveSettled, LeaveEnds, RegisterLooks, RegisterRefused, RegisterTakes, RegisterEnters, EntersSlot, FreesSlot, DeferGoes, DeferPushes, DeferEnds, list_off, IsSettled, IsBehindList, HasSettled, IsOnWay}
use Rattle.seize_model.proofs.Sets.Follows.Work.{Follows, Plainly, Alone, Setting}
use Rattle.seize_model.proofs.Sets.Follows.Begins.{AtRest, at_rest, leave_begins, refresh_begins, over_follows}
use Rattle.seize_model.proofs.Sets.Follows.Steps.{follows_step}
use Rattle.seize_model.proofs.Sets.Follows.Alone.{alone, fits_row, settles_setting, leaves_setting, settled_rests, settled_setting}

-- the state shows these sets, and so much was reclaimed
pub record Ended (n : ℕ) (m : State) (given : List ℕ) (sets : Sets) : Type 0 where
  pub order : List ℕ
  pub models : Models n m order sets
  pub taken : taken_in m.log ≡ given

abbrev pub EndedAs : ℕ → State → List ℕ → After → Type 0
EndedAs n m before target = Ended n m (before ++ target.reclaimed) target.sets

pub ended_unmoved : (n : ℕ) (m m2 : State) (given : List ℕ) (sets : Sets) → Unmoved n m m2 → Ended n m given sets → Ended n m2 given sets
ended_unmoved n m m2 given sets u h = record { order = h.order; models = unmoved_models n m m2 h.order sets u h.models; taken = u.taken ∙ h.taken }

pub ended_as : (n : ℕ) (m m2 : State) (given : List ℕ) (sets : Sets) → m2 ≡ m → Ended n m given sets → Ended n m2 given sets
ended_as n m m2 given sets e h = subst (λ (k : State). Ended n k given sets) (sym e) h

-- nothing is reclaimed
pub ended_quietly : (n : ℕ) (m : State) (given : List ℕ) (sets : Sets) (target : After) → target ≡ quietly sets → Ended n m given sets → EndedAs n m given target
ended_quietly n m given sets target e h =
    subst (λ (t : After). EndedAs n m given t) (sym e) (record { order = h.order; models = h.models; taken = h.taken ∙ sym (append-nil given) })

-- what the end of a section comes to
abbrev pub section_ends : Bool → ℕ → ℕ → Sets → After
section_ends true size s sets = counted size s sets
section_ends false size s sets = left size s sets

module _ (size n i : ℕ) (before : List ℕ) (sets : Sets) (target : After) where
  -- In the middle of a call that doesn't register: before its change the state shows the sets as they were, at its end what they are then.

  abbrev pub MidLeave : ℕ → ℕ → Leaving → State → Type 0
  MidLeave s becomes leaving.Swaps m = Ended n m before sets × ((again : Bool) × (becomes ≡ word_of again) × (target ≡ section_ends again size s sets))
  MidLeave s becomes (leaving.Settles settle) m = Follows size n i settle.slot (part settle) m before target
  MidLeave s becomes leaving.Frees m = EndedAs n m before target
  MidLeave s becomes leaving.Over m = EndedAs n m before target

  -- the block is to be put on the list of that one
  abbrev pub Aims : ℕ → At → Type 0
  Aims block at = (b t d : ℕ) × (block ≡ link b) × (at ≡ Word t d) × (target ≡ changed size (DefersSet b t) sets)

  abbrev pub MidDefer : ℕ → At → Deferring → State → Type 0
  MidDefer block at deferring.Reads m = Ended n m before sets × Aims block at
  MidDefer block at (deferring.Links head) m = Ended n m before sets × Aims block at
  MidDefer block at (deferring.Pushes head) m = Ended n m before sets × Aims block at
  MidDefer block at deferring.Over m = EndedAs n m before target

  abbrev pub Mid : Row → State → Type 0
  Mid Rests m = EndedAs n m before target
  Mid (Registers c) m = ⊥
  Mid (Enters c) m = Ended n m before sets × (target ≡ changed size (EntersSet c.slot) sets)
  Mid (Settles c) m = Follows size n i c.slot (part c) m before target
  Mid (Leaves c) m = MidLeave c.slot c.becomes c.stands m
  Mid (Defers s c) m = MidDefer c.block c.table_word c.stands m
  Mid (Frees c) m = Ended n m before sets × (target ≡ quietly sets)

  leave_ended : (s becomes : ℕ) (p : Leaving) (m : State) → IsSettled p → EndedAs n m before target → MidLeave s becomes p m
  leave_ended s becomes leaving.Swaps m k h = absurd k
  leave_ended s becomes (leaving.Settles settle) m k h = absurd k
  leave_ended s becomes leaving.Frees m k h = h
  leave_ended s becomes leaving.Over m k h = h

  row_ended : (r : Row) (m : State) → HasSettled r → EndedAs n m before target → Mid r m
  row_ended Rests m k h = h
  row_ended (Leaves c) m k h = leave_ended c.slot c.becomes c.stands m k h
  row_ended (Registers c) m k h = absurd k
  row_ended (Enters c) m k h = absurd k
  row_ended (Settles c) m k h = absurd k
  row_ended (Defers s c) m k h = absurd k
  row_ended (Frees c) m k h = absurd k

  ended_leave : (s becomes : ℕ) (p : Leaving) (m : State) → IsSettled p → MidLeave s becomes p m → EndedAs n m before target
  ended_leave s becomes leaving.Swaps m k h = absurd k
  ended_leave s becomes (leaving.Settles settle) m k h = absurd k
  ended_leave s becomes leaving.Frees m k h = h
  ended_leave s becomes leaving.Over m k h = h

  on_way : (block : ℕ) (at : At) (p : Deferring) (m : State) → IsOnWay p → MidDefer block at p m → Ended n m before sets × Aims block at
  on_way block at deferring.Reads m k h = h
  on_way block at (deferring.Links head) m k h = h
  on_way block at (deferring.Pushes head) m k h = h
  on_way block at deferring.Over m k h = absurd k

  still_on_way : (block : ℕ) (at : At) (p : Deferring) (m : State) → IsOnWay p → Ended n m before sets × Aims block at → MidDefer block at p m
  still_on_way block at deferring.Reads m k h = h
  still_on_way block at (deferring.Links head) m k h = h
  still_on_way block at (deferring.Pushes head) m k h = h
  still_on_way block at deferring.Over m k h = absurd k

  -- a slot is entered
  pub entered_ended : (s : ℕ) (m m2 : State) → s < n → m.head s ≡ Idle → m2 ≡ Moves.entered m s → Ended n m before sets → target ≡ changed size (EntersSet s) sets → EndedAs n m2 before target
  entered_ended s m m2 lt idle same h e =
      subst (λ (k : State). EndedAs n k before target) (sym same)
      (subst (λ (t : After). EndedAs n (Moves.entered m s) before t) (sym e)
      (record { order = h.order; models = enters_models n s m h.order sets lt idle h.models; taken = h.taken ∙ sym (append-nil before) }))

  -- a block reaches the list
  reached_ended : (b t d block : ℕ) (at : At) (m m2 : State) → block ≡ link b → at ≡ Word t d → m2 ≡ Moves.deferred_to m i b t → Ended n m before sets → Aims block at → EndedAs n m2 before target
  reached_ended b t d block at m m2 is word same h a =
      subst (λ (k : State). EndedAs n k before target) (sym same)
      (subst (λ (q : After). EndedAs n (Moves.deferred_to m i b t) before q) (sym (a.5 ∙ pair))
      (record { order = h.order; models = defers_models n i b t m h.order sets h.models; taken = h.taken ∙ sym (append-nil before) }))
    where
      same_block : (x y : ℕ) → link x ≡ link y → x ≡ y
      same_block x y e = omega (arith, e)

      number : At → ℕ
      number (Word x y) = x
      number _ = 0

      pair : changed size (DefersSet a.0 a.1) sets ≡ changed size (DefersSet b t) sets
      pair = ap (λ (x : ℕ). changed size (DefersSet x a.1) sets) (same_block a.0 b (sym a.3 ∙ is)) ∙ ap (λ (x : ℕ). changed size (DefersSet b x) sets) (ap number (sym a.4 ∙ word))

-- what the row knows of whether it leaves or refreshes
pub same_again : (a b : Bool) (w : ℕ) → w ≡ word_of a → w ≡ word_of b → a ≡ b
same_again true true w e f = refl
same_again false false w e f = refl
same_again true false w e f = absurd (omega (arith, e, f))
same_again false true w e f = absurd (omega (arith, e, f))

-- the slot's list is taken
pub section_begins : (size n i s : ℕ) (again : Bool) (es : List Entry) (m : State) (alone : Alone i m) (order : List ℕ) (sets : Sets)
    → Inv n m → AtRest i m → m.head s ≡ Active es → Models n m order sets → Plainly size n i s (list_off again m i s es) (taken_in m.log) (section_ends again size s sets)
section_begins size n i s true es m alone order sets inv rest top h = refresh_begins size n i s es m order sets inv alone rest top h
section_begins size n i s false es m alone order sets inv rest top h = leave_begins size n i s es m order sets inv alone rest top h

module _ {T : Type 0} (defers : T → Option ℕ) (n size : ℕ) (last : n ≡ LAST_SLOT + 1) (word : size < 2 ^ 64) (i : ℕ) (before : List ℕ) (sets : Sets) (target : After)
    (w v : World T) (lone : Lone defers n size i w) (lone2 : Lone defers n size i v) where
  abbrev pub m : State
  m = lone.good.state

  abbrev pub m2 : State
  m2 = lone2.good.state

  -- all that is left to do is done
  over : (s : ℕ) → Setting size n i s Plain m2 → AtRest i m2 → Plainly size n i s m2 before target → EndedAs n m2 before target
  over s set rest h =
      let d = over_follows size n i s Plain m2 before target set rest.none_left rest.pending rest.closing rest.loose h in
      record { order = d.1.0; models = d.1.1; taken = d.0 }

  -- a step of its settling
  settles_on : (c c2 : Settle) → c.batch_size ≡ size → c2.slot ≡ c.slot → Told n i c (part c) m c2 m2 → Setting size n i c.slot (part c) m
      → Follows size n i c.slot (part c) m before target → Follows size n i c2.slot (part c2) m2 before target
  settles_on c c2 sized same told set h =
      let k = follows_step n i c c2 before target (part c) m m2 told (subst (λ (b : ℕ). Setting b n i c.slot (part c) m) (sym sized) set)
      (subst (λ (b : ℕ). Follows b n i c.slot (part c) m before target) (sym sized) h) in
      subst (λ (s : ℕ). Follows size n i s (part c2) m2 before target) (sym same) (subst (λ (b : ℕ). Follows b n i c.slot (part c2) m2 before target) sized k)

  -- its settling is over
  settled : (c : Settle) → c.stands ≡ at.Over → m2 ≡ m → HasSettled (v.row i) → Setting size n i c.slot (part c) m → Follows size n i c.slot (part c) m before target → EndedAs n m2 before target
  settled c o same s set h =
      let p : part c ≡ Plain = ap (part_at c.flushing) o in
      over c.slot
      (subst (λ (k : State). Setting size n i c.slot Plain k) (sym same) (subst (λ (q : Part). Setting size n i c.slot q m) p set))
      (settled_rests defers n size last word i v lone2 s)
      (subst (λ (k : State). Plainly size n i c.slot k before target) (sym same) (subst (λ (q : Part). Follows size n i c.slot q m before target) p h))

  mid_at : (r : Row) → w.row i ≡ r → Mid size n i before sets target (w.row i) m → Mid size n i before sets target r m
  mid_at r e h = subst (λ (q : Row). Mid size n i before sets target q m) e h

  mid_to : (r : Row) → v.row i ≡ r → Mid size n i before sets target r m2 → Mid size n i before sets target (v.row i) m2
  mid_to r e h = subst (λ (q : Row). Mid size n i before sets target q m2) (sym e) h

  -- the section ends
  swapped : (c : Leave) (again : Bool) (es : List Entry) (p : Leaving) → w.row i ≡ Leaves c → v.row i ≡ Leaves (standing c p) → c.stands ≡ leaving.Swaps → c.slot < n
      → c.becomes ≡ word_of again → m.head c.slot ≡ Active es → m2 ≡ list_off again m i c.slot es → IsBehindList c.slot p
      → MidLeave size n i before sets target c.slot c.becomes leaving.Swaps m → MidLeave size n i before sets target c.slot c.becomes p m2
  swapped c again es p e e2 at lt becomes top same behind h = by p e2 behind
    where
      rest : AtRest i m
      rest = at_rest i m lone.good.extra
          (subst (λ (q : Leaving). FitsLeave n i (view defers w.memory) m lone.good.extra c.slot c.becomes c.frees q) at (fits_row defers n size last word i w lone (Leaves c) e)).on.idles.empty

      plainly : Plainly size n i c.slot m2 before target
      plainly =
          subst (λ (k : State). Plainly size n i c.slot k before target) (sym same)
          (subst (λ (l : List ℕ). Plainly size n i c.slot (list_off again m i c.slot es) l target) h.0.taken
          (subst (λ (t : After). Plainly size n i c.slot (list_off again m i c.slot es) (taken_in m.log) t)
          (sym (h.1.2 ∙ ap (λ (b : Bool). section_ends b size c.slot sets) (same_again h.1.0 again c.becomes h.1.1 becomes)))
          (section_begins size n i c.slot again es m (alone defers n size last word i w lone) h.0.order sets lone.good.inv rest top h.0.models)))

      ended : HasSettled (v.row i) → EndedAs n m2 before target
      ended s = over c.slot (settled_setting defers n size last word i v lone2 c.slot lt s) (settled_rests defers n size last word i v lone2 s) plainly

      by : (q : Leaving) → v.row i ≡ Leaves (standing c q) → IsBehindList c.slot q → MidLeave size n i before sets target c.slot c.becomes q m2
      by leaving.Swaps k b = absurd b
      by (leaving.Settles settle) k b =
          subst (λ (r : Part). Follows size n i settle.slot r m2 before target) (sym b.1) (subst (λ (s : ℕ). Plainly size n i s m2 before target) (sym b.0) plainly)
      by leaving.Frees k b = ended (subst (λ (r : Row). HasSettled r) (sym k) tt)
      by leaving.Over k b = ended (subst (λ (r : Row). HasSettled r) (sym k) tt)

  sized_at : (r : Row) → w.row i ≡ r → Sized size r
  sized_at r e = subst (λ (q : Row). Sized size q) e (lone.sized i)

  leave_sized : (c : Leave) (settle : Settle) → w.row i ≡ Leaves c → c.stands ≡ leaving.Settles settle → settle.batch_size ≡ size
  leave_sized c settle e at = subst (λ (p : Leaving). LeaveSized size p) at ((sized_at (Leaves c) e).1)

  leave_at : (c : Leave) (p : Leaving) → w.row i ≡ Leaves c → c.stands ≡ p → Mid size n i before sets target (w.row i) m → MidLeave size n i before sets target c.slot c.becomes p m
  leave_at c p e at h = subst (λ (q : Leaving). MidLeave size n i before sets target c.slot c.becomes q m) at (mid_at (Leaves c) e h)

  pub step_mid : RowTold n i (w.row i) m w.uses (v.row i) m2 v.uses → Mid size n i before sets target (w.row i) m → Mid size n i before sets target (v.row i) m2
  step_mid (SettleGoes c c2 e e2 same told) h =
      mid_to (Settles c2) e2 (settles_on c c2 (sized_at (Settles c) e) same told (settles_setting defers n size last word i w lone c e) (mid_at (Settles c) e h))
  step_mid (SettleEnds c e e2 o same) h =
      mid_to Rests e2 (settled c o same (subst (λ (r : Row). HasSettled r) (sym e2) tt) (settles_setting defers n size last word i w lone c e) (mid_at (Settles c) e h))
  step_mid (LeaveSwaps c again es p e e2 at lt becomes top same behind) h =
      mid_to (Leaves (standing c p)) e2 (swapped c again es p e e2 at lt becomes top same behind (leave_at c leaving.Swaps e at h))
  step_mid (LeaveGoes c settle settle2 e e2 at same told) h =
      mid_to (Leaves (standing c (leaving.Settles settle2))) e2
      (settles_on settle settle2 (leave_sized c settle e at) same told (leaves_setting defers n size last word i w lone c settle e at) (leave_at c (leaving.Settles settle) e at h))
  step_mid (LeaveSettled c settle e at o s same) h =
      row_ended size n i before sets target (v.row i) m2 s
      (settled settle o same s (leaves_setting defers n size last word i w lone c settle e at) (leave_at c (leaving.Settles settle) e at h))
  step_mid (LeaveEnds c e k s u) h =
      row_ended size n i before sets target (v.row i) m2 s
      (ended_unmoved n m m2 _ _ u (ended_leave size n i before sets target c.slot c.becomes c.stands m k (mid_at (Leaves c) e h)))
  step_mid (RegisterLooks c c2 e e2 a b d f g) h = absurd (mid_at (Registers c) e h)
  step_mid (RegisterRefused c e e2 a b d) h = absurd (mid_at (Registers c) e h)
  step_mid (RegisterTakes c e a b d f) h = absurd (mid_at (Registers c) e h)
  step_mid (RegisterEnters c e e2 a b d f g) h = absurd (mid_at (Registers c) e h)
  step_mid (EntersSlot c e e2 lt idle same) h =
      let k = mid_at (Enters c) e h in
      mid_to Rests e2 (entered_ended size n i before sets target c.slot m m2 lt idle same k.0 k.1)
  step_mid (FreesSlot c e e2 u) h =
      let k = mid_at (Frees c) e h in
      mid_to Rests e2 (ended_quietly n m2 before sets target k.1 (ended_unmoved n m m2 before sets u k.0))
  step_mid (DeferGoes s c p e e2 a b same) h =
      let k = on_way size n i before sets target c.block c.table_word c.stands m a (mid_at (Defers s c) e h) in
      mid_to (Defers s (record c { stands = p })) e2 (still_on_way size n i before sets target c.block c.table_word p m2 b (ended_as n m m2 before sets same k.0, k.1))
  step_mid (DeferPushes s b t d c e e2 a is at same) h =
      let k = on_way size n i before sets target c.block c.table_word c.stands m a (mid_at (Defers s c) e h) in
      mid_to (Defers s (record c { stands = deferring.Over })) e2 (reached_ended size n i before sets target b t d c.block c.table_word m m2 is at same k.0 k.1)
  step_mid (DeferEnds s c e e2 at u) h =
      mid_to Rests e2
      (ended_unmoved n m m2 _ _ u (subst (λ (p : Deferring). MidDefer size n i before sets target c.block c.table_word p m) at (mid_at (Defers s c) e h)))
