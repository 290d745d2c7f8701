-- The moves: the few changes of the state that the program points of all rows come down to. What each one asks for stands with its lemma.
use Rattle.std.proofs.Common.{ℕ, ◌+◌, ◌-◌, ◌%◌, ◌^◌, ◌++◌, Bool, cond, eqb, ltb, List, [], ◌∷◌}
use Rattle.seize.specs.Law.{Entered, Left, Made, Linked, Unlinked, Deferred, Retired, Taken, Dropped, Ended, LeftOver}
use Rattle.seize_moves.proofs.Moves.State.Ghost.{put, Entry, Free, Idle, Active, Debt, Unscanned, Marked, Gone, Skipped, Owing, Loose, Counted, Open, Closing, Closed, Dead, Life, IsFree, IsOwned, IsLinked, IsUnlinked, IsDeferring, IsDeferred, IsPending, IsIn, IsDoomed, IsLeft, State, was_put, total}

-- blocks

-- row i makes block b; k says whether it may carry deferred blocks
abbrev pub made : State → ℕ → ℕ → Bool → State
made m i b k = record m { life = put m.life b (IsOwned i); carrier = put m.carrier b k; log = Made b ∷ m.log }

abbrev pub dropped : State → ℕ → State
dropped m b = record m { life = put m.life b IsFree; log = Dropped b ∷ m.log }

abbrev pub linked : State → ℕ → ℕ → State
linked m b o = record m { life = put m.life b IsLinked; log = Linked b o ∷ m.log }

abbrev pub unlinked : State → ℕ → ℕ → State
unlinked m i b = record m { life = put m.life b (IsUnlinked i); log = Unlinked b ∷ m.log }

-- row i is to retire the block that it has unlinked
abbrev pub begins_retire : State → ℕ → ℕ → State
begins_retire m i b = record m { life = put m.life b (IsPending i); pending = put m.pending i (b ∷ m.pending i) }

-- from now on b can be reached only through t; row i, within the section of slot s, is to put it on the list of t
abbrev pub begins_defer : State → ℕ → ℕ → ℕ → ℕ → State
begins_defer m i s b t =
    record m { life = put m.life b (IsDeferring i s t); defers = put m.defers i (b + 1); log = Deferred b t ∷ m.log }

-- it is on that list
abbrev pub deferred_to : State → ℕ → ℕ → ℕ → State
deferred_to m i b t =
    record m { life = put m.life b (IsDeferred t); defers = put m.defers i 0; deferred = put m.deferred t (b ∷ m.deferred t) }

-- slots and sections

abbrev pub registered : State → ℕ → State
registered m s = record m { head = put m.head s Idle }

abbrev pub freed : State → ℕ → State
freed m s = record m { head = put m.head s Free }

abbrev pub entered : State → ℕ → State
entered m s = record m { head = put m.head s (Active []); log = Entered s ∷ m.log }

abbrev pub loosened : ℕ → Debt → Debt
loosened i Unscanned = Unscanned
loosened i Marked = Gone
loosened i Gone = Gone
loosened i Skipped = Skipped
loosened i Owing = Loose i
loosened i (Loose j) = Loose j
loosened i Counted = Counted

-- row i has the entries of slot s in its hands, and no batch that marked it has to give it one any more
abbrev pub loosened_at : ℕ → ℕ → (ℕ → Debt) → ℕ → Debt
loosened_at i s d t = cond (eqb t s) (loosened i (d t)) (d t)

abbrev pub has_left : State → ℕ → ℕ → List Entry → State
has_left m i s es =
    record m {
      head = put m.head s Idle;
      loose = put m.loose i es;
      from = put m.from i s;
      debt = λ x. loosened_at i s (m.debt x);
      log = Left s ∷ m.log;
    }

abbrev pub refreshed : State → ℕ → ℕ → List Entry → State
refreshed m i s es =
    record m {
      head = put m.head s (Active []);
      loose = put m.loose i es;
      from = put m.from i s;
      debt = λ x. loosened_at i s (m.debt x);
      log = Left s ∷ m.log;
    }

abbrev pub reopened : State → ℕ → State
reopened m s = record m { log = Entered s ∷ m.log }

-- row i runs within the open section of slot s, and then no longer
abbrev pub begins_call : State → ℕ → ℕ → State
begins_call m i s = record m { section = put m.section i (s + 1) }

abbrev pub ends_call : State → ℕ → State
ends_call m i = record m { section = put m.section i 0 }

-- open batches and tries

abbrev pub held : State → ℕ → ℕ → State
held m i s = record m { holder = put m.holder s (i + 1) }

abbrev pub gave : State → ℕ → State
gave m s = record m { holder = put m.holder s 0 }

-- b, the first to be retired of row i, goes into batch x
abbrev pub appended : State → ℕ → ℕ → List ℕ → ℕ → State
appended m i b bs x =
    record m {
      pending = put m.pending i bs;
      blocks = put m.blocks x (m.blocks x ++ b ∷ []);
      life = put m.life b (IsIn x);
      log = Retired b ∷ m.log;
    }

-- the scan of batch x passes slot t, which isn't active
abbrev pub skipped : State → ℕ → ℕ → State
skipped m x t = record m { debt = put m.debt x (put (m.debt x) t Skipped); seen = put m.seen x (t + 1) }

-- the scan of batch x finds slot t active
abbrev pub marked : State → ℕ → ℕ → State
marked m x t =
    record m {
      debt = put m.debt x (put (m.debt x) t Marked);
      seen = put m.seen x (t + 1);
      todo = put m.todo x (m.todo x ++ t ∷ []);
    }

-- the try of batch x is given up
abbrev pub given_up : State → ℕ → State
given_up m x = record m { debt = put m.debt x (λ t. Unscanned); seen = put m.seen x 0; todo = put m.todo x [] }

abbrev pub passed : Debt → Debt
passed Unscanned = Skipped
passed Marked = Marked
passed Gone = Gone
passed Skipped = Skipped
passed Owing = Owing
passed (Loose j) = Loose j
passed Counted = Counted

-- all slots that weren't scanned are passed
abbrev pub passed_all : ℕ → (ℕ → Debt) → ℕ → Debt
passed_all n d t = cond (ltb t n) (passed (d t)) (d t)

-- row i closes batch x of slot s, and a new one opens there
abbrev pub closed : ℕ → State → ℕ → ℕ → ℕ → State
closed n m i s x =
    record m {
      debt = put m.debt x (passed_all n (m.debt x));
      seen = put m.seen x n;
      closing = put m.closing i (x + 1);
      stage = put (put m.stage x (Closing i)) m.next (Open s);
      open_batch = put m.open_batch s m.next;
      next = m.next + 1;
    }

-- slot t, the first to do, is given an entry of batch x that lies in block c
abbrev pub pushed : State → ℕ → ℕ → ℕ → List Entry → List ℕ → State
pushed m x t c es rest =
    record m {
      head = put m.head t (Active (record { block = c; batch = x } ∷ es));
      debt = put m.debt x (put (m.debt x) t Owing);
      todo = put m.todo x rest;
    }

-- slot t, the first to do, has left since it was marked
abbrev pub missed : State → ℕ → ℕ → List ℕ → State
missed m x t rest = record m { debt = put m.debt x (put (m.debt x) t Skipped); todo = put m.todo x rest }

-- reclamation

-- row i adds the number of entries put to the counter of batch x
abbrev pub summed : ℕ → State → ℕ → ℕ → State
summed n m i x =
    record m {
      counter = put m.counter x ((m.counter x + total was_put (m.debt x) n) % 2 ^ 64);
      closing = put m.closing i 0;
      stage = put m.stage x Closed;
    }

-- row i counts its first loose entry down
abbrev pub counted : State → ℕ → Entry → List Entry → State
counted m i e es =
    record m {
      counter = put m.counter e.batch ((m.counter e.batch + (2 ^ 64 - 1)) % 2 ^ 64);
      debt = put m.debt e.batch (put (m.debt e.batch) (m.from i) Counted);
      loose = put m.loose i es;
    }

abbrev pub doomed : ℕ → ℕ → Life → Life
doomed i x IsFree = IsFree
doomed i x (IsOwned j) = IsOwned j
doomed i x IsLinked = IsLinked
doomed i x (IsUnlinked j) = IsUnlinked j
doomed i x (IsDeferring j s t) = IsDeferring j s t
doomed i x (IsDeferred t) = IsDeferred t
doomed i x (IsPending j) = IsPending j
doomed i x (IsIn y) = cond (eqb y x) (IsDoomed i) (IsIn y)
doomed i x (IsDoomed j) = IsDoomed j
doomed i x (IsLeft j) = IsLeft j

-- batch x is given to row i, to be reclaimed
abbrev pub gives_up : State → ℕ → ℕ → State
gives_up m i x =
    record m { stage = put m.stage x Dead; left = put m.left i (m.blocks x); life = λ c. doomed i x (m.life c) }

abbrev pub undeferred : ℕ → ℕ → Life → Life
undeferred i b IsFree = IsFree
undeferred i b (IsOwned j) = IsOwned j
undeferred i b IsLinked = IsLinked
undeferred i b (IsUnlinked j) = IsUnlinked j
undeferred i b (IsDeferring j s t) = IsDeferring j s t
undeferred i b (IsDeferred t) = cond (eqb t b) (IsPending i) (IsDeferred t)
undeferred i b (IsPending j) = IsPending j
undeferred i b (IsIn x) = IsIn x
undeferred i b (IsDoomed j) = IsDoomed j
undeferred i b (IsLeft j) = IsLeft j

-- row i takes over what was deferred until b
abbrev pub drained : State → ℕ → ℕ → State
drained m i b =
    record m {
      puts = put m.puts i (m.puts i ++ m.deferred b);
      deferred = put m.deferred b [];
      life = λ c. undeferred i b (m.life c);
    }

-- and is to retire it before the rest
abbrev pub joined : State → ℕ → State
joined m i = record m { pending = put m.pending i (m.puts i ++ m.pending i); puts = put m.puts i [] }

-- row i takes b, the first that it still has to take
abbrev pub taken : State → ℕ → ℕ → List ℕ → State
taken m i b bs = record m { left = put m.left i bs; life = put m.life b IsFree; log = Taken b ∷ m.log }

-- what has ended

-- what was deferred until b is left with it
abbrev pub left_with : ℕ → ℕ → Life → Life
left_with i b IsFree = IsFree
left_with i b (IsOwned j) = IsOwned j
left_with i b IsLinked = IsLinked
left_with i b (IsUnlinked j) = IsUnlinked j
left_with i b (IsDeferring j s t) = IsDeferring j s t
left_with i b (IsDeferred t) = cond (eqb t b) (IsLeft i) (IsDeferred t)
left_with i b (IsPending j) = IsPending j
left_with i b (IsIn x) = IsIn x
left_with i b (IsDoomed j) = IsDoomed j
left_with i b (IsLeft j) = IsLeft j

-- b, which somebody has unlinked, is left to row i, with what was deferred until b
abbrev pub left_over : State → ℕ → ℕ → State
left_over m i b =
    record m { deferred = put m.deferred b []; life = put (λ c. left_with i b (m.life c)) b (IsLeft i); log = LeftOver b (m.deferred b) ∷ m.log }

-- an owner ends
abbrev pub ended : State → ℕ → State
ended m o = record m { log = Ended o ∷ m.log }
