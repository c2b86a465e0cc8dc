-- What a commit answers and leaves. Assumes nothing.
--     outdated m rs ds            a drafted card's newest version is not the one read
--     in_drawer m x ds            how many of the drafts are for cards in the drawer of card x
--     crowded m ds                the drafts in one drawer outnumber its free places
--     commit_answer b m n         the commit of transaction n on the shelf m
--     new_count m rs ds y         the new stamp: the greatest of all read stamps at y, plus 1 at each drafted card, stopping at 65,535
--     put_cards .. x              the shelf with the drafts below card x put, in rising card order
--     read_lines, writ_lines, block       the lines that a commit adds to the journal: READs, WRITs, each in rising card order, and a DONE
--     commit_shelf b m n, commit_books b m n      the shelf and the books after the call
use Rattle.std.specs.Prelude.{ℕ, zero, suc, ◌+◌, min, Bool, true, false, cond, not, ◌||◌, List, [], ◌∷◌, ◌++◌, length, Some, None, Ok, Err, Option, Result, ◌==◌, nat_lt}
use Rattle.std.specs.Option.{unwrap_or}
use Rattle.stamps.specs.declared.value.Value.{Value}
use Rattle.stamps.specs.Blank.{blank}
use Rattle.stamps.specs.Counts.{most, cut}
use Rattle.records.specs.declared.kind.Kind.{Kind}
use Rattle.records.specs.declared.kind.Kind.TheVariants as kinds
use Rattle.records.specs.declared.line.Line.{Line}
use Rattle.records.specs.Format.{no_words}
use Rattle.shelf.specs.Meaning.{Version, Meaning, newest}
use Rattle.shelf.specs.Questions.{writer_of}
use Rattle.shelf.specs.Putting.{added}
use Rattle.isolation.specs.Account.{Reading, Draft, has_read, drafted, draft_of}
use Rattle.isolation.specs.Vectors.{greatest}
use Rattle.transactions.specs.declared.refusal.Refusal.{Refusal}
use Rattle.transactions.specs.declared.refusal.Refusal.TheVariants as refusals
use Rattle.transactions.specs.State.{Open, State, held, room}
use Rattle.transactions.specs.Choosing.{stamps_of, version_read, other_shelf}
use Rattle.transactions.specs.Calls.{after_end}

-- the version read is the number given
abbrev pub is_version : Option ℕ → ℕ → Bool
is_version None n = false
is_version (Some k) n = k == n

abbrev pub outdated : Meaning → List Reading → List Draft → Bool
outdated m rs [] = false
outdated m rs (d ∷ ds) = not (is_version (version_read rs d.card) (newest m d.card)) || outdated m rs ds

abbrev pub in_drawer : Meaning → ℕ → List Draft → ℕ
in_drawer m x [] = 0
in_drawer m x (d ∷ ds) = cond (m.shares x d.card) 1 0 + in_drawer m x ds

-- one of the drafts ds, among all drafts, has too few free places
abbrev pub crowded_by : Meaning → (ds all : List Draft) → Bool
crowded_by m [] all = false
crowded_by m (d ∷ ds) all = nat_lt (m.free d.card) (in_drawer m d.card all) || crowded_by m ds all

abbrev pub crowded : Meaning → List Draft → Bool
crowded m ds = crowded_by m ds ds

-- the lines that the commit of o needs
abbrev pub block_length : Open → ℕ
block_length o = length o.reads + length o.drafts + 1

abbrev pub decide : State → Meaning → Open → Result (Unit {0}) Refusal
decide b m o =
    cond (other_shelf b m o.reads) (Err refusals.OtherShelf)
    (cond (outdated m o.reads o.drafts) (Err refusals.Conflict)
    (cond (crowded m o.drafts) (Err refusals.NoPlace)
    (cond (nat_lt (room b) (block_length o)) (Err refusals.JournalFull) (Ok tt))))

-- without drafts nothing is tested
abbrev pub commit_of : State → Meaning → Open → List Draft → Result (Unit {0}) Refusal
commit_of b m o [] = Ok tt
commit_of b m o (d ∷ ds) = decide b m o

abbrev pub commit_by : State → Meaning → Option Open → Result (Unit {0}) Refusal
commit_by b m None = Err refusals.NotOpen
commit_by b m (Some o) = commit_of b m o o.drafts

abbrev pub commit_answer : State → Meaning → ℕ → Result (Unit {0}) Refusal
commit_answer b m n = commit_by b m (held b n)

abbrev pub new_count : Meaning → List Reading → List Draft → ℕ → ℕ
new_count m rs ds y = cond (drafted ds y) (min (suc (greatest (stamps_of m) rs y)) most) (greatest (stamps_of m) rs y)

-- the version that the commit of o on the shelf m makes of card x
abbrev pub new_version : Meaning → Open → ℕ → Version
new_version m o x =
    record { value = draft_of o.drafts x blank; writer = o.number; stamp = cut m.width (new_count m o.reads o.drafts) }

abbrev pub put_cards : Meaning → Open → ℕ → Meaning
put_cards m o zero = m
put_cards m o (suc x) = cond (drafted o.drafts x) (added (put_cards m o x) x (new_version m o x)) (put_cards m o x)

abbrev pub line : Kind → (n x w : ℕ) → Value → Line
line k n x w v =
    record { kind = k; transaction = record { 0 = n }; card = record { 0 = x }; writer = record { 0 = w }; value = v }

abbrev pub writer_at : Meaning → ℕ → Option ℕ → ℕ
writer_at m x None = 0
writer_at m x (Some k) = (unwrap_or (writer_of m x k) (record { 0 = 0 })).0

-- the READs of the cards below x
abbrev pub read_lines : Meaning → Open → ℕ → List Line
read_lines m o zero = []
read_lines m o (suc x) =
    read_lines m o x
    ++ cond (has_read o.reads x) (line kinds.Read o.number x (writer_at m x (version_read o.reads x)) no_words ∷ []) []

-- the WRITs of the cards below x
abbrev pub writ_lines : Open → ℕ → List Line
writ_lines o zero = []
writ_lines o (suc x) =
    writ_lines o x ++ cond (drafted o.drafts x) (line kinds.Writ o.number x o.number (draft_of o.drafts x blank) ∷ []) []

abbrev pub block : Meaning → Open → ℕ → List Line
block m o cards = read_lines m o cards ++ (writ_lines o cards ++ (line kinds.Done o.number 0 0 no_words ∷ []))

-- what a granted commit of o leaves
abbrev pub shelf_with : State → Meaning → List Draft → Open → Meaning
shelf_with b m [] o = m
shelf_with b m (d ∷ ds) o = put_cards m o b.cards

abbrev pub journal_with : State → Meaning → List Draft → Open → List Line
journal_with b m [] o = b.journal
journal_with b m (d ∷ ds) o = b.journal ++ block m o b.cards

abbrev pub with_journal : State → List Line → State
with_journal b ls =
    record { sizes = b.sizes; cards = b.cards; width = b.width; places = b.places; given = b.given; journal = ls }

abbrev pub shelf_after : State → Meaning → Option Open → Result (Unit {0}) Refusal → Meaning
shelf_after b m None r = m
shelf_after b m (Some o) (Ok u) = shelf_with b m o.drafts o
shelf_after b m (Some o) (Err f) = m

abbrev pub commit_shelf : State → Meaning → ℕ → Meaning
commit_shelf b m n = shelf_after b m (held b n) (commit_answer b m n)

-- a conflict ends the transaction too
abbrev pub ends_by : Refusal → Bool
ends_by refusals.NoCards = false
ends_by refusals.Narrow = false
ends_by refusals.NotFresh = false
ends_by refusals.ShortBooks = false
ends_by refusals.NotOpen = false
ends_by refusals.NoCard = false
ends_by refusals.AllOpen = false
ends_by refusals.NumbersOut = false
ends_by refusals.Unread = false
ends_by refusals.DraftsOut = false
ends_by refusals.Conflict = true
ends_by refusals.NoPlace = false
ends_by refusals.JournalFull = false
ends_by refusals.OtherShelf = false

abbrev pub books_after : State → Meaning → ℕ → Option Open → Result (Unit {0}) Refusal → State
books_after b m n None r = b
books_after b m n (Some o) (Ok u) = with_journal (after_end b n) (journal_with b m o.drafts o)
books_after b m n (Some o) (Err f) = cond (ends_by f) (after_end b n) b

abbrev pub commit_books : State → Meaning → ℕ → State
commit_books b m n = books_after b m n (held b n) (commit_answer b m n)
