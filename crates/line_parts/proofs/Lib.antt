mod Numbers
mod Requests
mod Texts
