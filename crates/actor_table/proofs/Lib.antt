mod Having
mod Numbers
