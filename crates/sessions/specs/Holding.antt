-- What a session means. Assumes nothing.
--     held s          what the session s holds
use Rattle.std.specs.Prelude.{vec_items}
use Rattle.catalogue.specs.Kept.{kept}
use Rattle.sessions.specs.declared.session.Session.{Session}
use Rattle.sessions.specs.Exactly.{Held}

abbrev pub held : Session → Held
held s = record { books = kept s.catalogue; slips = vec_items s.slips }
