-- A run, one command longer.
use Rattle.std.proofs.Common.{◌≡◌, ℕ, ◌+◌, ◌<◌, ◌≤◌, List, [], ◌∷◌, ◌++◌, length, get_or, take, sym, subst}
use Rattle.std.proofs.lemmas.List.{take_all, take_more}
use Rattle.shelf.specs.Meaning.{Meaning}
use Rattle.shelf.specs.Sound.{Sound}
use Rattle.transactions.specs.State.{State}
use Rattle.sessions.specs.declared.answer.Answer.{Answer}
use Rattle.sessions.specs.declared.command.Command.{Command}
use Rattle.sessions.specs.Exactly.{Held, Replied, Ran}
use Rattle.sessions.specs.Exactly.Ran.{begun, goes_on}

pub ran_none : (m : Meaning) (h : Held) (cs : List Command) (rs : List Answer) → rs ≡ [] → h.slips ≡ [] → Ran m h.books (take 0 cs) rs m h
ran_none m h cs rs e f =
    subst (λ zs. Ran m h.books (take 0 cs) zs m h) (sym e) (subst (λ zs. Ran m h.books [] [] m (record { books = h.books; slips = zs })) (sym f) begun)

pub ran_more : (m₀ m n : Meaning) (b₀ : State) (cs : List Command) (i : ℕ) (rs rs' : List Answer) (h k : Held) (e : Command) (a : Answer) →
    i < length cs → Sound m → Ran m₀ b₀ (take i cs) rs m h → Replied m h (get_or cs i e) a n k → rs' ≡ rs ++ (a ∷ []) →
    Ran m₀ b₀ (take (i + 1) cs) rs' n k
ran_more m₀ m n b₀ cs i rs rs' h k e a lt s r q p =
    subst (λ zs. Ran m₀ b₀ (take (i + 1) cs) zs n k) (sym p)
    (subst (λ zs. Ran m₀ b₀ zs (rs ++ (a ∷ [])) n k) (sym (take_more cs i e lt)) (goes_on r s (get_or cs i e) a n k q))

pub ran_all : (m₀ m : Meaning) (b₀ : State) (cs : List Command) (i : ℕ) (rs : List Answer) (h : Held) → length cs ≤ i → Ran m₀ b₀ (take i cs) rs m h →
    Ran m₀ b₀ cs rs m h
ran_all m₀ m b₀ cs i rs h le r = subst (λ zs. Ran m₀ b₀ zs rs m h) (take_all i cs le) r
