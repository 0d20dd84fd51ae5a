-- The text of a request (RFC 9112, sections 2 and 3).
use Rattle.std.specs.Prelude.{ℕ, List, ◌++◌, length, codes}
use Rattle.std.specs.Fmt.{decimal}
use Rattle.cli_client.specs.declared.request.RemoteServer.{RemoteServer}
use Rattle.cli_client.specs.declared.request.ClientRequest.{ClientRequest}

-- the end of a line of a head
abbrev pub line_end : List ℕ
line_end = codes "\r\n"

-- the target and the version, behind the method
abbrev pub target_part : ClientRequest → List ℕ
target_part call = codes " " ++ call.target.now ++ codes " HTTP/1.1\r\n"

abbrev pub request_line : ClientRequest → List ℕ
request_line call = call.method.now ++ target_part call

abbrev pub host_field : RemoteServer → List ℕ
host_field server = codes "host: " ++ server.host.now ++ line_end

abbrev pub token_field : RemoteServer → List ℕ
token_field server = codes "authorization: Bearer " ++ server.token.now ++ line_end

abbrev pub length_field : ClientRequest → List ℕ
length_field call = codes "content-length: " ++ decimal (length call.body.now) ++ line_end

-- the head, with its empty line, and the body
abbrev pub request_text : RemoteServer → ClientRequest → List ℕ
request_text server call =
    request_line call ++ host_field server ++ token_field server ++ length_field call ++ line_end ++ call.body.now
