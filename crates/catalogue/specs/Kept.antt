-- What the catalogue's books mean, and what a commit decided. Assumes nothing.
--     kept c                      the meaning of a catalogue's books
--     decision r                  what a commit's answer says, the slip aside
use Rattle.std.specs.Prelude.{Ok, Err, Result}
use Rattle.transactions.specs.declared.refusal.Refusal.{Refusal}
use Rattle.transactions.specs.declared.refusal.Refusal.TheVariants as refusals
use Rattle.transactions.specs.State.{State}
use Rattle.books.specs.declared.slip.NotCommitted.{NotCommitted}
use Rattle.books.specs.declared.slip.NotCommitted.TheVariants.{HandedBack, Conflict}
use Rattle.books.specs.States.{state_of}
use Rattle.catalogue.specs.declared.calls.Catalogue.{Catalogue}

abbrev pub kept : Catalogue → State
kept c = state_of c.books

abbrev pub refused_by : NotCommitted → Refusal
refused_by (HandedBack s f) = f
refused_by Conflict = refusals.Conflict

abbrev pub decision : Result (Unit {0}) NotCommitted → Result (Unit {0}) Refusal
decision (Ok u) = Ok u
decision (Err n) = Err (refused_by n)
