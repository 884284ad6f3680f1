-- What a macro of `log` logs, as a record of log4rs.
use Rattle.std.specs.Prelude.{◌≡◌, ℕ, List, Option, Some, None, IfSome, option_map, string_bytes}
use Rattle.log.specs.Record.{metadata_level, metadata_target, record_metadata, record_args}
use Rattle.log.specs.declared.record.Record.{Record as Event}
use Rattle.log4rs_base.specs.declared.record.Context.{Context}
use Rattle.log4rs_base.specs.declared.record.Record.{Record}
use Rattle.log4rs.specs.declared.origin.Origin.{Origin}

-- the record says what the event says:
-- its text where `output` knows it, its target also as the module path, and no file
pub record Says
    {D K S : Type 0} (output : D → Option (List ℕ))
    (event : Event D K S) (r : Record) : Type 0 where
  pub level : r.level ≡ metadata_level (record_metadata event)
  pub target : string_bytes r.target ≡ metadata_target (record_metadata event)
  pub message : IfSome (output (record_args event)) (λ text. string_bytes r.message ≡ text)
  pub module_path :
      option_map string_bytes r.module_path ≡ Some (metadata_target (record_metadata event))
  pub file : r.file ≡ None
  pub line : r.line ≡ None

-- the context says what the origin says, and has no random word
pub record IsFrom (origin : Origin) (c : Context) : Type 0 where
  pub zone : c.zone ≡ origin.zone
  pub thread : option_map string_bytes c.thread ≡ option_map string_bytes origin.thread
  pub thread_id : c.thread_id ≡ origin.thread_id
  pub tid : c.tid ≡ origin.tid
  pub pid : c.pid ≡ origin.pid
  pub debug : c.debug ≡ origin.debug
  pub random : c.random ≡ 0
