-- What users do, and the steps of rows that write no entry, leave of the blocks that the collector has the words of their entries.
use Rattle.std.specs.Prelude.{◌%◌, ◌^◌, ◌&&◌, Option, Some, None, Ok, Err, IsSome, bit_or}
use Rattle.std.proofs.Common.{◌≡◌, ℕ, ◌+◌, Bool, true, false, cond, eqb, refl, ap, sym, subst, eqb-true, ◌∙◌}
use Rattle.std.proofs.lemmas.Bool.{ne_eqb}
use Rattle.seize_words.specs.declared.at.At.{At}
use Rattle.seize_words.specs.declared.at.At.TheVariants.{Root, Used, Slot, Entry, Word}
use Rattle.seize_words.specs.OneMemory.Mem.{Mem, Took, Gives, after, same_at, value_at, word_at, with_word}
use Rattle.seize_words.specs.OneMemory.Op.{Op, Out, Load, Store, Swap, Add, Or, Exchange, Make, Take, Rewrite, Room, Found, Stored, Exchanged, Made, Taken, Roomed}
use Rattle.seize_words.specs.OneMemory.Plan.{Steps}
use Rattle.seize.specs.declared.states.TheConstants.{NEXT}
use Rattle.seize.specs.declared.advance.Advance.{Advance}
use Rattle.seize.specs.declared.rows.register.Register.{Register}
use Rattle.seize.specs.declared.rows.register.Registering.{Registering}
use Rattle.seize.specs.declared.rows.register.Registering.TheVariants as registering
use Rattle.seize.specs.declared.rows.leave.Leave.{Leave}
use Rattle.seize.specs.declared.rows.leave.Leaving.{Leaving}
use Rattle.seize.specs.declared.rows.leave.Leaving.TheVariants as leaving
use Rattle.seize.specs.declared.rows.settle.Settled.{Settled}
use Rattle.seize.specs.declared.rows.defer.Defer.{Defer}
use Rattle.seize.specs.declared.rows.defer.Deferring.{Deferring}
use Rattle.seize.specs.declared.rows.defer.Deferring.TheVariants as deferring
use Rattle.seize.specs.Leave as leave
use Rattle.seize.specs.Register as register
use Rattle.seize.specs.Defer as defer
use Rattle.seize.specs.World.{World, Row, Rests, Registers, Enters, Settles, Leaves, Defers, Frees, Event, Begin, Step, Makes, Drops, Links, Parts, Unlinks, Rewrites, Operates, Ends, LeavesOver, Relinks, Clears, Chooses, Happens, Steps', IsOwn, IsOwnOp, Hand, Making, LeftTo, Handed}
use Rattle.seize.specs.Sequence.{IsBetween}
use Rattle.seize_model.proofs.Given.SeizeMemoryWords.Named.{words_of, wrote, made_one, taken_one, write_apart}
use Rattle.seize_model.proofs.Given.SeizeMemoryWords.Rewritten.{rewritten_words}
use Rattle.seize_model.proofs.Given.SeizeRuleWorld.Events.{missing}
use Rattle.seize_model.proofs.Given.SeizeRuleRows.Told.{IsSettled, IsLooking}
use Rattle.seize_model.proofs.Ends.Batches.Rows.{made_memory, registers_memory, defers_memory}
use Rattle.seize_acts.proofs.Bounds.Bounds.Beside.{IsAsideRow}

-- a word of a block's entry
abbrev pub entry_of : {T : Type 0} → ℕ → Mem T → ℕ → ℕ
entry_of field m c = words_of m (Entry c field)

-- it is as it was, of each block that the collector has
abbrev pub SameEntries : {T : Type 0} → ℕ → (ℕ → Hand) → Mem T → Mem T → Type 0
SameEntries field hand m m2 = (c : ℕ) → hand c ≡ Handed → entry_of field m2 c ≡ entry_of field m c

-- another block's
other_entry : (c b field : ℕ) → (c ≡ b → ⊥) → same_at (Entry c field) (Entry b NEXT) ≡ false
other_entry c b field ne = ap (λ (t : Bool). t && eqb field NEXT) (ne_eqb c b ne)

pub apart_made : (hand : ℕ → Hand) (b c i : ℕ) → hand b ≡ Making i → hand c ≡ Handed → c ≡ b → ⊥
apart_made hand b c i a h e = let k = ap hand e in cc (a, h, k)

pub apart_left : (hand : ℕ → Hand) (b c i : ℕ) → hand b ≡ LeftTo i → hand c ≡ Handed → c ≡ b → ⊥
apart_left hand b c i a h e = let k = ap hand e in cc (a, h, k)

module _ {T : Type 0} (field : ℕ) (hand : ℕ → Hand) (m : Mem T) where
  same : (m2 : Mem T) → m2 ≡ m → SameEntries field hand m m2
  same m2 e c h = ap (λ (k : Mem T). entry_of field k c) e

  -- a word of a block is not that of an entry's link
  own_link : (defers : T → Option ℕ) (at : At) (v : ℕ) → IsOwn defers m at → SameEntries field hand m (with_word m at v)
  own_link defers (Root r) v own c h = refl
  own_link defers (Used r) v own c h = refl
  own_link defers (Slot s f) v own c h = absurd own
  own_link defers (Entry b f) v own c h = absurd own
  own_link defers (Word b f) v own c h = go (word_at m (Word b f)) refl
    where
      go : (o : Option ℕ) → word_at m (Word b f) ≡ o → entry_of field (with_word m (Word b f) v) c ≡ entry_of field m c
      go None e = ap (λ (k : Mem T). entry_of field k c) (missing defers m (Word b f) v own e)
      go (Some x) e = ap (λ (g : At → ℕ). g (Entry c field)) (wrote m (Word b f) v (subst IsSome (sym e) refl)).words
          ∙ write_apart (words_of m) (Word b f) v (Entry c field) refl

  own_op : (defers : T → Option ℕ) (op : Op T) (out : Out T) → IsOwnOp defers m op → SameEntries field hand m (after m op out)
  own_op defers (Load at) out own c h = refl
  own_op defers (Store at v) out own c h = own_link defers at v own c h
  own_op defers (Swap at v) out own c h = own_link defers at v own c h
  own_op defers (Add at v) (Found a) own c h = own_link defers at ((a + v) % 2 ^ 64) own c h
  own_op defers (Add at v) _ own c h = refl
  own_op defers (Or at v) (Found a) own c h = own_link defers at (bit_or a v) own c h
  own_op defers (Or at v) _ own c h = refl
  own_op defers (Exchange at old new) (Exchanged (Ok a)) own c h = own_link defers at new own c h
  own_op defers (Exchange at old new) _ own c h = refl
  own_op defers (Make value words) out own c h = absurd own
  own_op defers (Take b) out own c h = absurd own
  own_op defers (Rewrite b new) out own c h = absurd own
  own_op defers (Room bucket) out own c h = absurd own

  makes : (value : T) (words : ℕ) (out : Out T) → Gives m (Make value words) out → SameEntries field hand m (after m (Make value words) out)
  makes value words (Made (Ok b)) g c h = ap (λ (w : At → ℕ). w (Entry c field)) (made_one m value words b g.0).words
  makes value words (Made (Err back)) g c h = refl
  makes value words (Found a) g c h = absurd g
  makes value words Stored g c h = absurd g
  makes value words (Exchanged (Ok a)) g c h = absurd g
  makes value words (Exchanged (Err a)) g c h = absurd g
  makes value words (Taken a) g c h = absurd g
  makes value words (Roomed (Ok a)) g c h = absurd g
  makes value words (Roomed (Err a)) g c h = absurd g

  -- a block that the collector doesn't have is taken away
  takes : (b : ℕ) (out : Out T) → ((c : ℕ) → hand c ≡ Handed → c ≡ b → ⊥) → Gives m (Take b) out → SameEntries field hand m (after m (Take b) out)
  takes b (Taken value) apart g c h =
      ap (λ (w : At → ℕ). w (Entry c field)) (taken_one m b (subst IsSome (sym g) refl)).words ∙ by (eqb c b) (eqb-true c b)
    where
      by : (t : Bool) → (t ≡ true → c ≡ b) → cond t 0 (entry_of field m c) ≡ entry_of field m c
      by true e = absurd (apart c h (e refl))
      by false e = refl
  takes b (Found a) apart g c h = absurd g
  takes b Stored apart g c h = absurd g
  takes b (Exchanged (Ok a)) apart g c h = absurd g
  takes b (Exchanged (Err a)) apart g c h = absurd g
  takes b (Made (Ok a)) apart g c h = absurd g
  takes b (Made (Err a)) apart g c h = absurd g
  takes b (Roomed (Ok a)) apart g c h = absurd g
  takes b (Roomed (Err a)) apart g c h = absurd g

  rewrites : (b : ℕ) (new old : T) (out : Out T) → Gives m (Rewrite b new) out → SameEntries field hand m (after m (Rewrite b new) out)
  rewrites b new old (Taken value) g c h = rewritten_words m b new value g (Entry c field)
  rewrites b new old (Found a) g c h = absurd g
  rewrites b new old Stored g c h = absurd g
  rewrites b new old (Exchanged (Ok a)) g c h = absurd g
  rewrites b new old (Exchanged (Err a)) g c h = absurd g
  rewrites b new old (Made (Ok a)) g c h = absurd g
  rewrites b new old (Made (Err a)) g c h = absurd g
  rewrites b new old (Roomed (Ok a)) g c h = absurd g
  rewrites b new old (Roomed (Err a)) g c h = absurd g

module _ {T : Type 0} (defers : T → Option ℕ) (size field : ℕ) (w v : World T)
    (left : (b i : ℕ) → w.hand b ≡ LeftTo i → IsSome (word_at w.memory (Entry b NEXT))) where
  abbrev So : Mem T → Type 0
  So m2 = SameEntries field w.hand w.memory m2

  to : (m2 : Mem T) → v.memory ≡ m2 → So m2 → So v.memory
  to m2 e so = subst So (sym e) so

  -- what users do
  pub users_entries : (e : Event T) → IsBetween e → Happens defers size e w v → So v.memory
  users_entries (Begin i request) u h = absurd u
  users_entries (Step i) u h = absurd u
  users_entries (Makes i value words) u h =
      to h.1 (ap (λ (x : World T). x.memory) h.4 ∙ made_memory defers w i h.1 h.0)
      (subst So (sym h.3.1) (makes field w.hand w.memory value words h.0 h.3.0))
  users_entries (Drops i b) u h =
      to h.1 (ap (λ (x : World T). x.memory) h.4)
      (subst So (sym h.3.1) (takes field w.hand w.memory b h.0 (λ c k e. apart_made w.hand b c h.2.0 h.2.1 k e) h.3.0))
  users_entries (Links i b o) u h = same field w.hand w.memory v.memory (ap (λ (x : World T). x.memory) h.1)
  users_entries (Parts i b) u h = same field w.hand w.memory v.memory (ap (λ (x : World T). x.memory) h.1)
  users_entries (Unlinks i b) u h = same field w.hand w.memory v.memory (ap (λ (x : World T). x.memory) h.1)
  users_entries (Rewrites i b value) u h =
      to h.1 (ap (λ (x : World T). x.memory) h.5) (subst So (sym h.3.1) (rewrites field w.hand w.memory b value h.0 (Taken h.0) h.3.0))
  users_entries (Operates op) u h =
      to h.1 (ap (λ (x : World T). x.memory) h.4) (subst So (sym h.3.1) (own_op field w.hand w.memory defers op h.0 h.2))
  users_entries (Ends i o) u h = same field w.hand w.memory v.memory (ap (λ (x : World T). x.memory) h)
  users_entries (LeavesOver i b further) u h = same field w.hand w.memory v.memory (ap (λ (x : World T). x.memory) h.4)
  users_entries (Relinks i b word) u h =
      to h.1 (ap (λ (x : World T). x.memory) h.4)
      (subst So (sym h.3.1)
      (λ c k. ap (λ (g : At → ℕ). g (Entry c field)) (wrote w.memory (Entry b NEXT) word (left b h.2.0 h.2.1)).words
      ∙ write_apart (words_of w.memory) (Entry b NEXT) word (Entry c field) (other_entry c b field (λ e. apart_left w.hand b c h.2.0 h.2.1 k e))))
  users_entries (Clears i b) u h =
      to h.1 (ap (λ (x : World T). x.memory) h.5)
      (subst So (sym h.4.1) (takes field w.hand w.memory b h.0 (λ c k e. apart_left w.hand b c h.2.0 h.2.1 k e) h.4.0))
  users_entries (Chooses choice) u h = to _ (ap (λ (x : World T). x.memory) h) (λ c k. refl)

  -- a slot's word is stored, or room is made, or nothing is written

  rooms : (bucket : ℕ) (out : Out T) (m2 : Mem T) → m2 ≡ after w.memory (Room bucket) out → So m2
  rooms bucket (Roomed (Ok made)) m2 e = subst So (sym e) (λ c h. refl)
  rooms bucket (Roomed (Err fault)) m2 e = subst So (sym e) (λ c h. refl)
  rooms bucket (Found a) m2 e = subst So (sym e) (λ c h. refl)
  rooms bucket Stored m2 e = subst So (sym e) (λ c h. refl)
  rooms bucket (Exchanged r) m2 e = subst So (sym e) (λ c h. refl)
  rooms bucket (Made r) m2 e = subst So (sym e) (λ c h. refl)
  rooms bucket (Taken a) m2 e = subst So (sym e) (λ c h. refl)

  exchanges : (s f old new : ℕ) (out : Out T) (m2 : Mem T) → m2 ≡ after w.memory (Exchange (Slot s f) old new) out → So m2
  exchanges s f old new (Exchanged (Ok a)) m2 e = subst So (sym e) (λ c h. refl)
  exchanges s f old new (Exchanged (Err a)) m2 e = subst So (sym e) (λ c h. refl)
  exchanges s f old new (Roomed r) m2 e = subst So (sym e) (λ c h. refl)
  exchanges s f old new (Found a) m2 e = subst So (sym e) (λ c h. refl)
  exchanges s f old new Stored m2 e = subst So (sym e) (λ c h. refl)
  exchanges s f old new (Made r) m2 e = subst So (sym e) (λ c h. refl)
  exchanges s f old new (Taken a) m2 e = subst So (sym e) (λ c h. refl)

  register_entries : (c : Register) (p : Registering) → IsLooking p → (m2 : Mem T) (end : Register × Advance ℕ)
      → Steps Took value_at w.memory (register.plan_at c p) m2 end → So m2
  register_entries c registering.Begin looks m2 end st = rooms 0 st.0 m2 st.1.1
  register_entries c registering.Look looks m2 end st = subst So (sym st.1.1) (λ c h. refl)
  register_entries c (registering.Widen bucket seen) looks m2 end st = rooms bucket st.0 m2 st.1.1
  register_entries c (registering.Take seen) looks m2 end st = exchanges c.slot 0 seen 2 st.0 m2 st.1.1
  register_entries c registering.Enter looks m2 end st = absurd looks
  register_entries c registering.Registered looks m2 end st = absurd looks
  register_entries c (registering.Refused fault) looks m2 end st = absurd looks

  leave_entries : (c : Leave) (p : Leaving) → IsSettled p → (m2 : Mem T) (end : Leave × Settled T)
      → Steps Took value_at w.memory (leave.plan_at defers c p) m2 end → So m2
  leave_entries c leaving.Swaps is m2 end st = absurd is
  leave_entries c (leaving.Settles settle) is m2 end st = absurd is
  leave_entries c leaving.Frees is m2 end st = subst So (sym st.1.1) (λ c h. refl)
  leave_entries c leaving.Over is m2 end st = subst So (sym st.0) (λ c h. refl)

  defer_entries : (c : Defer) → c.stands ≡ deferring.Over → (m2 : Mem T) (end : Defer × Advance Unit)
      → Steps Took value_at w.memory (defer.defer_plan c) m2 end → So m2
  defer_entries c is m2 end st =
      let s = subst (λ (p : Deferring). Steps Took value_at w.memory (defer.plan_at c p) m2 end) is st in subst So (sym s.0) (λ c h. refl)

  -- the step of a row that writes no entry
  pub row_entries : (i : ℕ) (row : Row) → IsAsideRow row → Steps' defers i row w v → So v.memory
  row_entries i Rests aside h = absurd h
  row_entries i (Registers c) aside h =
      to h.0 (ap (λ (x : World T). x.memory) h.3 ∙ registers_memory w i h.0 c h.1.0 h.1.1) (register_entries c c.stands aside h.0 h.1 h.2)
  row_entries i (Enters c) aside h = absurd aside
  row_entries i (Settles c) aside h = absurd aside
  row_entries i (Leaves c) aside h = to h.0 (ap (λ (x : World T). x.memory) h.3) (leave_entries c c.stands aside h.0 h.1 h.2)
  row_entries i (Defers s c) aside h =
      to h.0 (ap (λ (x : World T). x.memory) h.3 ∙ defers_memory w i h.0 s h.1.0 h.1.1) (defer_entries c aside h.0 h.1 h.2)
  row_entries i (Frees c) aside h = to h.0 (ap (λ (x : World T). x.memory) h.3) (subst So (sym h.2.1.1) (λ c h. refl))
