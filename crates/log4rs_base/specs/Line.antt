-- The line of a record.
use Rattle.std.specs.Prelude.{List, [], ◌∷◌, ◌++◌, Option, Some, None, String, codes, option_map}
use Rattle.std.specs.Prelude.{string_bytes}
use Rattle.std.specs.declared.alloc.Global.{Global}
use Rattle.log.specs.Level.{level_name}
use Rattle.log4rs_base.specs.Text.{Text}
use Rattle.log4rs_base.specs.declared.record.Context.{Context}
use Rattle.log4rs_base.specs.declared.record.Record.{Record}
use Rattle.serde_json.specs.Data.{Data, null, string, number, unsigned, object, Members, no_members}
use Rattle.serde_json.specs.Data.{member}
use Rattle.serde_json.specs.Written.{compact_text}

-- a member that is there only with a value
abbrev pub if_some : {A : Type 0} → Text → (A → Data) → Option A → Members → Members
if_some k f (Some x) rest = member k (f x) rest
if_some k f None rest = rest

-- a text, or null
abbrev pub or_null : Option Text → Data
or_null (Some s) = string s
or_null None = null

-- a member for each key, in order
abbrev pub text_members : List (String Global × String Global) → Members
text_members [] = no_members
text_members (e ∷ es) = member (string_bytes e.0) (string (string_bytes e.1)) (text_members es)

-- what is told of a record at a time
abbrev pub members_of : Text → Record → Context → Members
members_of time r c =
    member (codes "time") (string time)
    (member (codes "level") (string (level_name r.level))
    (member (codes "message") (string (string_bytes r.message))
    (if_some (codes "module_path") string (option_map string_bytes r.module_path)
    (if_some (codes "file") string (option_map string_bytes r.file)
    (if_some (codes "line") (λ n. number (unsigned n)) r.line
    (member (codes "target") (string (string_bytes r.target))
    (member (codes "thread") (or_null (option_map string_bytes c.thread))
    (member (codes "thread_id") (number (unsigned c.thread_id))
    (member (codes "mdc") (object (text_members c.mdc.entries)) no_members)))))))))

-- one object without spaces, then the newline
abbrev pub json_line : Text → Record → Context → Text
json_line time r c = compact_text (object (members_of time r c)) ++ codes "\n"
