use Rattle.std.proofs.lemmas.Str.{is_utf8-from_IsUtf8}
use Rattle.messages.proofs.encoding.put_text.Goals as goal

pub returns-in_err-put_bytes-clause-utf8 : goal.returns-in_err-put_bytes-clause-utf8
returns-in_err-put_bytes-clause-utf8 c = is_utf8-from_IsUtf8 _ c.utf8.text

pub returns-in_err-put_bytes-2-clause-utf8 : goal.returns-in_err-put_bytes-2-clause-utf8
returns-in_err-put_bytes-2-clause-utf8 c = is_utf8-from_IsUtf8 _ c.utf8.text

pub returns-clause-utf8 : goal.returns-clause-utf8
returns-clause-utf8 c = is_utf8-from_IsUtf8 _ c.utf8.text
