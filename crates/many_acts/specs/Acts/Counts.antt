-- What a counting of pairs has read of a map's counter by the end of a list of acts, and what it answers.
use Rattle.std.specs.Prelude.{◌≡◌, ℕ, suc, ◌==◌, ◌&&◌, ◌%◌, ◌^◌, Bool, List, [], ◌∷◌, ◌++◌, length, Option, Some, None, if◌then◌else◌}
use Rattle.std.specs.List.{sum}
use Rattle.run_shows.specs.Given.SeizeWordsMem.{Mem, word_at}
use Rattle.run_shows.specs.Given.SeizeWordsDeclared.at.At.TheVariants.{Word}
use Rattle.seize_acts.specs.Acts.Answers.{Grant}
use Rattle.run_shows.specs.Given.TablesCounts.{count_in}
use Rattle.run_shows.specs.Given.TablesDeclared.node.Node.{Node}
use Rattle.run_shows.specs.Given.ResizeDeclared.sum.Sum.{Sum}
use Rattle.run_shows.specs.Given.ResizeDeclared.sum.Summing.{Summing}
use Rattle.run_shows.specs.Given.ResizeDeclared.sum.Summing.TheVariants as sums
use Rattle.run_shows.specs.Given.RawDeclared.machines.progress.Answer.TheVariants as answers
use Rattle.run_shows.specs.Given.RawDeclared.machines.progress.Progress.TheVariants as progress
use Rattle.owner_facts.specs.Given.CallersTogether.{UnderWay, Counting}
use Rattle.owner_facts.specs.Given.FinishesMaps.{Standing}
use Rattle.many_acts.specs.Acts.Acts.{Act, OfCall, BeginsCall, StepsCall}
use Rattle.many_acts.specs.Acts.Doings.{Doing, Does, MayDo}
use Rattle.many_acts.specs.Acts.Lists.{Course, Reached, LedOn, LedTo, nothing_done, on_by}
use Rattle.run_shows.specs.Scenes.Scene.{Scene}

-- what is there, as a list
abbrev pub listed : Option ℕ → List ℕ
listed None = []
listed (Some word) = word ∷ []

module _ {K V : Type 0} (m : Mem (Node K V)) where
  -- the word of the shard that a counting reads next, as it stands in this memory
  abbrev pub next_shard : Sum → Summing → List ℕ
  next_shard c (sums.Adds shard total) = listed (word_at m (Word c.setting.counter shard))
  next_shard c (sums.Over count) = []

  abbrev pub shard_of_call : Option (UnderWay K V K) → List ℕ
  shard_of_call (Some (Counting c)) = next_shard c c.stands
  shard_of_call _ = []

-- these words were read, the last first: it has come so far, and to their sum
abbrev pub HasRead : Sum → List ℕ → Type 0
HasRead c words = c.stands ≡ sums.Adds (length words) (sum words % 2 ^ 64)

-- an act is one on the call of this caller on this map
abbrev pub is_its : ℕ → ℕ → ℕ → ℕ → Bool
is_its i m j n = (j == i) && (n == m)

module _ {K V S : Type 0} (i m : ℕ) where
  -- what the counting has read by an act: nothing as it begins, and one shard more by each step, as it stands then
  abbrev pub read_on : Act K V S → Scene K V → List ℕ → List ℕ
  read_on (BeginsCall j n wanted) s words = if is_its i m j n then [] else words
  read_on (StepsCall j n g) s words = if is_its i m j n then shard_of_call s.world.memory (s.calls m i) ++ words else words
  read_on act s words = words

  -- it reads nothing while all is reclaimed
  abbrev pub read_by : Doing K V S → Scene K V → List ℕ → List ℕ
  read_by (Does act) s words = read_on act s words
  read_by doing s words = words

module _ {K V S : Type 0} (same : K → K → Bool) (hash : S → K → ℕ) (batch_size roots : ℕ) (slot : ℕ → ℕ) (course : Course V same hash batch_size roots slot) where
  -- what it has read by the end of these acts, if it had read so much before them
  abbrev pub words_on : ℕ → ℕ → (doings : List (Doing K V S)) (x y : Reached V same hash batch_size roots slot) → List ℕ → LedOn V same hash batch_size roots slot course doings x y → List ℕ
  words_on i m [] x y words led = words
  words_on i m (doing ∷ doings) x y words led =
      words_on i m doings (on_by V same hash batch_size roots slot course x doing led.0) y (read_by i m doing x.0.0 words) led.1

  -- The words that the counting has read that this caller has under way on this map: each is that of its shard, at a moment since the counting began.
  abbrev pub words_read : ℕ → ℕ → (doings : List (Doing K V S)) (x : Reached V same hash batch_size roots slot) → LedTo V same hash batch_size roots slot course doings x → List ℕ
  words_read i m doings x led = words_on i m doings (nothing_done V same hash batch_size roots slot course) x [] led

  -- Wherever a list of acts has led, a counting that is under way has come to the sum of the words that it has read, shard by shard from the first on.
  abbrev pub CountingsAddUp : Type 0
  CountingsAddUp =
      (doings : List (Doing K V S)) (x : Reached V same hash batch_size roots slot) (led : LedTo V same hash batch_size roots slot course doings x)
      → (i m : ℕ) (c : Sum) → x.0.0.calls m i ≡ Some (Counting c) → HasRead c (words_read i m doings x led)

  -- And what it answers by its last step is the sum of the words of all shards, which is none where that is negative.
  abbrev pub CountingsAnswerTheSum : Type 0
  CountingsAnswerTheSum =
      (doings : List (Doing K V S)) (x : Reached V same hash batch_size roots slot) (led : LedTo V same hash batch_size roots slot course doings x)
      → (i m : ℕ) (c : Sum) → x.0.0.calls m i ≡ Some (Counting c) → (s : Standing K) → x.0.0.maps m ≡ Some s
      → (g : Grant) (may : MayDo V same hash batch_size roots slot (Does (StepsCall i m g)) x.0) (count : ℕ)
      → course.told x.0 (Does (StepsCall i m g)) may ≡ OfCall (progress.Done (answers.Count count))
      → (length (shard_of_call x.0.0.world.memory (x.0.0.calls m i) ++ words_read i m doings x led) ≡ suc s.setting.mask)
      × (count ≡ count_in (sum (shard_of_call x.0.0.world.memory (x.0.0.calls m i) ++ words_read i m doings x led) % 2 ^ 64))
