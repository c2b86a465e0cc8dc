-- Every session is lawful, and what is told of it stands.
use Rattle.std.proofs.Common.{◌≡◌, ℕ, List, [], ◌∷◌, ◌++◌, Some, None, Ok, Err, Option, Result, sym, refl, ap, ◌∙◌, subst}
use Rattle.shelf.specs.Meaning.{Meaning}
use Rattle.shelf.specs.Sound.{Sound}
use Rattle.isolation.specs.Account.{Account, fresh, Draft}
use Rattle.transactions.specs.declared.event.Event.{Event}
use Rattle.transactions.specs.declared.event.Event.TheVariants as events
use Rattle.transactions.specs.declared.refusal.Refusal.{Refusal}
use Rattle.transactions.specs.State.{State, Open, held}
use Rattle.transactions.specs.Calls.{set_up_answer, after_set_up, emptied, if_granted}
use Rattle.transactions.specs.Committing.{commit_answer, commit_shelf, shelf_with}
use Rattle.transactions.specs.Committing.{shelf_after as commit-leaves}
use Rattle.transactions.specs.Run.{number_in, after_event, EventLaw}
use Rattle.transactions.specs.Watched.{Watched}
use Rattle.transactions.proofs.Putting.{puts_cards}
use Rattle.transactions.proofs.Theorems.{set_up_begins}
use Rattle.transactions.proofs.Promised.{open_promised, read_promised, draft_promised, commit_promised, abandon_promised, close_promised, upheld}
use Rattle.sessions.specs.declared.answer.Answer.{Answer}
use Rattle.sessions.specs.declared.answer.Answer.TheVariants as answers
use Rattle.sessions.specs.declared.command.Command.{Command}
use Rattle.sessions.specs.Slips.{slips_after}
use Rattle.sessions.specs.Scripts.{SoFar, nothing_yet, account_by, told_by, told, AnswersTo}
use Rattle.sessions.specs.Laws.{On, JournalLaw, AnswerLaw, LawfulSession}
use Rattle.sessions.specs.Ends.{Ends, SessionLaw}
use Rattle.sessions.specs.Exactly.{ExactCall, Exact, shelf_call, shelf_after, BooksCall, BooksAfter, Held, Ran, DoneExactly}
use Rattle.sessions.specs.Exactly.Ran.{begun, goes_on}
use Rattle.sessions.proofs.Told.{versions_told, stamp_told, journal_told}

-- the law of one call, and what is watched after it
event_kept : (m : Meaning) (b c : State) (e : Event) (a : Account) → Sound m → Watched a m b → ExactCall m b e → BooksCall m b e c
    → EventLaw a e × Watched (after_event a e) (shelf_call m b e) c
event_kept m b c (events.Open r) a s w e f = let (l, u) = open_promised m b c (number_in r) e f a w in (l, u.watched)
event_kept m b c (events.Read t x r) a s w e f = let (l, u) = read_promised m b c t.0 x.0 r e f a w in (l, u.watched)
event_kept m b c (events.Draft t x v r) a s w e f = let (l, u) = draft_promised m b c t.0 x.0 v r e f a w in (l, u.watched)
event_kept m b c (events.Commit t r) a s w e f =
    let (l, u) = commit_promised m (commit_shelf b m t.0) b c t.0 r s e refl f a w in
    (l, u.watched)
event_kept m b c (events.Abandon t r) a s w e f = let (l, u) = abandon_promised m b c t.0 r e f a w in (l, u.watched)
event_kept m b c events.Close a s w e f = (tt, (close_promised m b c f a w).watched)

-- a shelf keeps its cards
commit_cards : (m : Meaning) (b : State) (t : ℕ) → (commit_shelf b m t).cards ≡ m.cards
commit_cards m b t = go (held b t) (commit_answer b m t)
  where
    with_drafts : (o : Open) (ds : List Draft) → (shelf_with b m ds o).cards ≡ m.cards
    with_drafts o [] = refl
    with_drafts o (d ∷ ds) = puts_cards m o b.cards

    go : (o : Option Open) (r : Result (Unit {0}) Refusal) → (commit-leaves b m o r).cards ≡ m.cards
    go None r = refl
    go (Some o) (Ok u) = with_drafts o o.drafts
    go (Some o) (Err f) = refl

call_cards : (m : Meaning) (b : State) (e : Event) → (shelf_call m b e).cards ≡ m.cards
call_cards m b (events.Open r) = refl
call_cards m b (events.Read t x r) = refl
call_cards m b (events.Draft t x v r) = refl
call_cards m b (events.Commit t r) = commit_cards m b t.0
call_cards m b (events.Abandon t r) = refl
call_cards m b events.Close = refl

same_cards : (m : Meaning) (b : State) (a : Answer) → (shelf_after m b a).cards ≡ m.cards
same_cards m b (answers.SetUp r) = refl
same_cards m b (answers.Call e) = call_cards m b e
same_cards m b answers.NoSlip = refl
same_cards m b (answers.Versions x r) = refl
same_cards m b (answers.Stamp x k r) = refl
same_cards m b (answers.Journal ls) = refl

module _ (n : ℕ) (m : Meaning) (b d : State) (s : Sound m) (same : m.cards ≡ n) where
  -- nothing has changed
  as_before : (o : Option Account) → d ≡ b → On o (λ u. Watched u m b) → On o (λ u. Watched u m d)
  as_before o e w = subst (λ z. On o (λ u. Watched u m z)) (sym e) w

  begins : d ≡ after_set_up b m → (u : Unit {0}) → Ok u ≡ set_up_answer b m → Watched (fresh n) m d
  begins f u e =
      subst (λ z. Watched (fresh z) m d) same (subst (Watched (fresh m.cards) m) (sym f) (set_up_begins m b s (sym e)))

  law_of : (o : Option Account) (a : Answer) → On o (λ u. Watched u m b) → Exact m b a → BooksAfter m b a d
      → AnswerLaw o a × On (account_by n o a) (λ u. Watched u (shelf_after m b a) d)
  law_of o (answers.SetUp (Ok u)) w e f = (tt, begins f u e)
  law_of o (answers.SetUp (Err r)) w e f = (tt, as_before o (f ∙ ap (λ z. if_granted z (emptied b m) b) (sym e)) w)
  law_of None (answers.Call e) w x f = (tt, tt)
  law_of (Some a) (answers.Call e) w x f = event_kept m b d e a s w x f
  law_of o answers.NoSlip w e f = (tt, as_before o f w)
  law_of None (answers.Versions x r) w e f = (tt, tt)
  law_of (Some a) (answers.Versions x r) w e f = (versions_told a m b s w x.0 r e, as_before (Some a) f w)
  law_of None (answers.Stamp x k r) w e f = (tt, tt)
  law_of (Some a) (answers.Stamp x k r) w e f = (stamp_told a m b s w x.0 k.0 r e, as_before (Some a) f w)
  law_of None (answers.Journal ls) w e f = (tt, tt)
  law_of (Some a) (answers.Journal ls) w e f = (subst (JournalLaw a) (sym e) (journal_told a m b s w), as_before (Some a) f w)

-- one more at the end
told_more : (n : ℕ) (p : SoFar) (rs : List Answer) (a : Answer) → told n p (rs ++ (a ∷ [])) ≡ told_by n (told n p rs) a
told_more n p [] a = refl
told_more n p (c ∷ rs) a = told_more n (told_by n p c) rs a

lawful_more : (n : ℕ) (p : SoFar) (cs : List Command) (rs : List Answer) (c : Command) (a : Answer) → LawfulSession n p cs rs
    → AnswersTo (told n p rs).slips c a → AnswerLaw (told n p rs).account a → LawfulSession n p (cs ++ (c ∷ [])) (rs ++ (a ∷ []))
lawful_more n p [] [] c a l x y = (x, y, tt)
lawful_more n p [] (b ∷ rs) c a l x y = absurd l
lawful_more n p (d ∷ cs) [] c a l x y = absurd l
lawful_more n p (d ∷ cs) (b ∷ rs) c a l x y = (l.0, l.1, lawful_more n (told_by n p b) cs rs c a l.2 x y)

-- what is told stands: the slips are those in hand, and the account is watched
record Stands (n : ℕ) (p : SoFar) (m : Meaning) (h : Held) : Type 0 where
  cards : m.cards ≡ n
  slips : p.slips ≡ h.slips
  watched : On p.account (λ u. Watched u m h.books)

module _ (m₀ : Meaning) (b₀ : State) where
  ran_lawful : {cs : List Command} {rs : List Answer} {m : Meaning} {h : Held} → Ran m₀ b₀ cs rs m h
      → LawfulSession m₀.cards nothing_yet cs rs × Stands m₀.cards (told m₀.cards nothing_yet rs) m h
  ran_lawful begun = (tt, record { cards = refl; slips = refl; watched = tt })
  ran_lawful (goes_on {cs} {rs} {m} {h} r s c a n d q) =
      let (l, k) = ran_lawful r in
      let p = told m₀.cards nothing_yet rs in
      let (y, w) = law_of m₀.cards m h.books d.books s k.cards p.account a k.watched q.exact q.books in
      let next : Stands m₀.cards (told_by m₀.cards p a) n d = record {
        cards = ap (λ (z : Meaning). z.cards) q.shelf ∙ same_cards m h.books a ∙ k.cards;
        slips = ap (λ zs. slips_after zs a) k.slips ∙ sym q.slips;
        watched = subst (λ z. On (account_by m₀.cards p.account a) (λ u. Watched u z d.books)) (sym q.shelf) w;
      } in (
        lawful_more m₀.cards nothing_yet cs rs c a l (subst (λ zs. AnswersTo zs c a) (sym k.slips) q.answers) y,
        subst (λ z. Stands m₀.cards z n d) (sym (told_more m₀.cards nothing_yet rs a)) next,
      )

  pub session_lawful : (cs : List Command) (rs : List Answer) (n : Meaning) → DoneExactly m₀ b₀ cs rs n → SessionLaw m₀ cs rs n
  session_lawful cs rs n h =
      let (l, k) = ran_lawful h.ran in
      record { lawful = l; ends = go (told m₀.cards nothing_yet rs).account k.watched }
    where
      go : (o : Option Account) → On o (λ u. Watched u n h.held.books) → On o (Ends n)
      go None w = tt
      go (Some a) w = let u = upheld a n h.held.books w in record { shelf = u.shelf; stamps = u.stamps; isolated = u.isolated }
